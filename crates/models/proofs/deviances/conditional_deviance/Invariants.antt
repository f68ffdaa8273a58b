-- `models::deviances::conditional_deviance` meets its contract. What the loop carries stands ready for its count, or for
-- an earlier one. Assumes nothing.
use mathlib.Core.Path.{◌≡◌}
use Prim.Native.Nat.{ℕ, ◌+◌}
use lib.Ieee.{Float, neg}
use Rattle.meaning.proofs.Loops.{Folded}
use Rattle.routines.specs.Constants.{zero}
use Rattle.routines.specs.Ops.{of_count}
use Rattle.models.specs.Deviances.{expected_of, deviance_term}
use Rattle.models.specs.HeightTerms.{heights_of, ready_of}
use Rattle.models.specs.Spectra.{observed_step}
use Rattle.models.specs.declared.height_terms.HeightTerms.{HeightTerms}
use Rattle.models.proofs.deviances.conditional_deviance.Given as goal

-- a term of the sum, from the terms of the fit
abbrev pub term_from : HeightTerms → Float → ℕ → ℕ → Float
term_from t scale n i = deviance_term (of_count n) (expected_of (heights_of t (of_count (i + 1))) scale)

abbrev pub invariant-loop-i : goal.invariant-loop-i
invariant-loop-i l =
    (l.reached.ready ≡ ready_of l.t.error_params l.reached.ready.count) ×
    Folded (observed_step l.bins l.scale (term_from l.t l.scale)) (neg zero) 0 l.top l.reached.total l.i
