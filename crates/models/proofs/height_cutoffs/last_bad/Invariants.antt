-- `models::height_cutoffs::last_bad` meets its contract. The survival that the loop carries is that of its count.
-- Assumes nothing.
use mathlib.Core.Path.{◌≡◌}
use Prim.Native.Nat.{ℕ, ◌+◌}
use lib.Ieee.{Float}
use Rattle.meaning.proofs.Loops.{Folded}
use Rattle.routines.specs.Ops.{of_count}
use Rattle.models.specs.Errors.{survival_of}
use Rattle.models.specs.HeightTerms.{error_height_of}
use Rattle.models.specs.declared.height_terms.HeightTerms.{HeightTerms}
use Rattle.models.specs.HeightCutoffs.{later_bad}
use Rattle.models.proofs.height_cutoffs.last_bad.Given as goal

abbrev pub step : HeightTerms → Float → ℕ → ℕ → ℕ
step t reference k = later_bad reference (error_height_of t (of_count k)) k

abbrev pub invariant-loop-count : goal.invariant-loop-count
invariant-loop-count l =
    (l.here ≡ survival_of l.t.error_params (of_count l.count))
    × Folded (step l.t l.reference) 0 1 (l.top + 1) l.last l.count
