-- A fit beside the flag 0 is no candidate, whatever it holds: C's attempt without one is not valid, and is passed over
-- in the selection. Assumes nothing.
use mathlib.Core.Path.{◌≡◌, refl}
use mathlib.Core.Bool.{Bool, true, false, ◌&&◌}
use Rattle.std.specs.Prelude.{Option}
use Rattle.fitter.specs.Attempts.{valid_of, unrejected}
use Rattle.fitter.specs.Selection.{replace_of}
use Rattle.fitter.proofs.Selecting.{passed_over}
use Rattle.models.specs.declared.fit.SpectrumFit.{SpectrumFit}
use Rattle.exports.specs.FlatAttempts.{attempt_of_flat, rejection_of}
use Rattle.exports.specs.declared.flat_attempts.FlatAttempt.{FlatAttempt}

never : (b : Bool) → b && false ≡ false
never true = refl
never false = refl

pub no-flag-not-valid : (a : FlatAttempt) → a.has_candidate ≡ 0 → valid_of (attempt_of_flat a) ≡ false
unfolding attempt_of_flat valid_of
no-flag-not-valid a e = rw e (never (unrejected (rejection_of a.rejection_present a.rejection)))

-- whatever stood first stays
pub no-flag-passed-over : (best : Option SpectrumFit) (a : FlatAttempt) → a.has_candidate ≡ 0
    → replace_of best (attempt_of_flat a) ≡ best
no-flag-passed-over best a e = passed_over best (attempt_of_flat a) (no-flag-not-valid a e)
