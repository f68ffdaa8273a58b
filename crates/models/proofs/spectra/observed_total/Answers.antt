-- `models::spectra::observed_total` meets its contract. Assumes nothing.
use mathlib.Core.Path.{refl, ap, ◌∙◌}
use Prim.Native.Nat.{ℕ}
use native.Mathlib.Omega.{arith}
use lib.Ieee.{neg, of_bits}
use Rattle.routines.specs.Ops.{of_count}
use Rattle.meaning.proofs.Loops.{begins, goes_on, ends}
use Rattle.models.specs.Spectra.{over_observed, seen_term}
use Rattle.models.proofs.spectra.observed_total.Goals as goal

pub loop-i-init : goal.loop-i-init
unfolding neg of_bits
loop-i-init c = begins _ _ _ _ _ (omega arith) refl

pub loop-i-preserved : goal.loop-i-preserved
loop-i-preserved c =
    goes_on _ _ _ _ c.loop-i.invariant _ (omega arith) (c.add_seen-total.ensures
    ∙ ap (λ (n : ℕ). seen_term n c.loop-i.total (of_count n)) c.recovered_at.ensures)

pub returns : goal.returns
unfolding over_observed
returns c = ends _ _ _ _ c.loop-i.invariant (omega arith)
