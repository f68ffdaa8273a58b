-- `models::spectra::full_total` meets its contract. Assumes nothing.
use lib.ListN.{length}
use lib.Ieee.{neg}
use Rattle.routines.specs.Constants.{zero}
use Rattle.meaning.proofs.Loops.{Folded}
use Rattle.models.specs.Spectra.{full_step}
use Rattle.models.proofs.spectra.full_total.Given as goal

abbrev pub invariant-loop-n : goal.invariant-loop-n
invariant-loop-n l = Folded (full_step l.bins) (neg zero) 0 (length l.bins) l.total l.n-index
