-- What a fit is asked with: where the window ends, what stands fixed, and the four configurations. Definitions only.
-- Assumes nothing.
use Rattle.std.specs.Prelude.{ℕ, ◌*◌, ◌-◌, Bool, cond, List, [], ◌∷◌, eqb, ltb, Float, unwrap_or, is_some}
use Rattle.std.specs.Float.{binary64}
use Rattle.std.specs.Float.Ieee.{of_bits}
use Rattle.routines.specs.Constants.{half, two, three, four}
use Rattle.models.specs.declared.families.ErrorModel.TheVariants.{FreeSingletonWeibull, SingletonPareto}
use Rattle.models.specs.declared.families.GenomeModel.TheVariants.{NegativeBinomial, ShelfNegativeBinomial}
use Rattle.fitter.specs.declared.asking.Asked.{Asked}
use Rattle.fitter.specs.declared.asking.Families.{Families}
use Rattle.fitter.specs.declared.asking.WindowKind.{WindowKind}
use Rattle.fitter.specs.declared.asking.WindowKind.TheVariants.{Cut, Full, Given}

-- ---- what stands fixed: the dispersions and the shelf's shapes of the starts, as the Rust has them
-- 2, 8 and 15
abbrev pub seeds : List Float
seeds = two ∷ of_bits binary64 0x4020000000000000 ∷ of_bits binary64 0x402e000000000000 ∷ []

-- 0.5 and 3, 0.75 and 4
abbrev pub shapes : List Float
shapes = half ∷ three ∷ of_bits binary64 0x3fe8000000000000 ∷ four ∷ []

-- ---- the window: the whole of six peaks lies in the bins, or is cut to all but the last
abbrev pub is_full : ℕ → ℕ → Bool
is_full peak bins = ltb (6 * peak) bins

unfoldable pub window_rule : ℕ → ℕ → ℕ
window_rule peak bins = cond (is_full peak bins) (6 * peak) (bins - 1)

unfoldable pub window_end_of : Asked → ℕ → ℕ
window_end_of a bins = unwrap_or a.window_end (window_rule a.peak bins)

unfoldable pub window_kind_of : Asked → ℕ → WindowKind
window_kind_of a bins = cond (is_some a.window_end) Given (cond (is_full a.peak bins) Full Cut)

-- ---- the four configurations, in the original's order
unfoldable pub configuration_of : ℕ → Families
configuration_of k =
    cond (eqb k 1) (record { error = SingletonPareto; genome = NegativeBinomial })
    (cond (eqb k 2) (record { error = FreeSingletonWeibull; genome = NegativeBinomial })
    (cond (eqb k 3) (record { error = SingletonPareto; genome = ShelfNegativeBinomial })
    (record { error = FreeSingletonWeibull; genome = ShelfNegativeBinomial })))
