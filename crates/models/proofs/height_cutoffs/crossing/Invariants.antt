-- `models::height_cutoffs::crossing` meets its contract. The invariant: what is left of the search, from the count on,
-- is the whole of it; and the survival that the loop carries is that of its count. Assumes nothing.
use mathlib.Core.Path.{◌≡◌}
use Prim.Native.Nat.{ℕ, ◌-◌}
use Rattle.routines.specs.Ops.{of_count}
use Rattle.models.specs.Errors.{survival_of}
use Rattle.models.specs.HeightCutoffs.{crossing_from, crossing_of}
use Rattle.models.specs.HeightTerms.{heights_of}
use Rattle.models.specs.declared.height_terms.HeightTerms.{HeightTerms}
use Rattle.models.specs.declared.height_terms.Heights.{Heights}
use Rattle.models.proofs.height_cutoffs.crossing.Given as goal

abbrev pub heights-in : HeightTerms → ℕ → Heights
heights-in t k = heights_of t (of_count k)

abbrev pub invariant-loop-count : goal.invariant-loop-count
invariant-loop-count l =
    (l.here ≡ survival_of l.t.error_params (of_count l.count))
    × (crossing_of (heights-in l.t) l.ceiling ≡ crossing_from (heights-in l.t) (l.ceiling - l.count) l.count)
