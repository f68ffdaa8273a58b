-- `models::likelihoods::likelihood` meets its contract. Assumes nothing.
use mathlib.Core.Path.{◌≡◌}
use lib.Ieee.{neg}
use Rattle.routines.specs.Constants.{zero}
use Rattle.meaning.proofs.Loops.{Folded}
use Rattle.models.specs.Spectra.{observed_step}
use Rattle.models.specs.Hoists.{ahead_of, point_term_at}
use Rattle.models.proofs.likelihoods.likelihood.Given as goal

abbrev pub invariant-loop-i : goal.invariant-loop-i
invariant-loop-i l =
    (l.reached.ahead ≡ ahead_of l.p.error_params l.ready l.reached.ahead.bin)
    × Folded (observed_step l.bins l.scale (point_term_at l.p l.m l.steady l.ready l.table)) (neg zero) 0 l.top l.reached.total l.i
