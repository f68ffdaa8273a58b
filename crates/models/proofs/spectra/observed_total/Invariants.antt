-- `models::spectra::observed_total` meets its contract. Assumes nothing.
use Prim.Native.Nat.{ℕ}
use lib.Ieee.{neg}
use Rattle.routines.specs.Constants.{zero}
use Rattle.routines.specs.Ops.{of_count}
use Rattle.meaning.proofs.Loops.{Folded}
use Rattle.models.specs.Spectra.{observed_step}
use Rattle.models.proofs.spectra.observed_total.Given as goal

abbrev pub invariant-loop-i : goal.invariant-loop-i
invariant-loop-i l = Folded (observed_step l.bins l.scale (λ (n j : ℕ). of_count n)) (neg zero) 0 l.top l.total l.i
