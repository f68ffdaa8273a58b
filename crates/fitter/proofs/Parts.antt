-- A start out of what its writer worked out, and how long it is. Assumes nothing.
use Prim.Native.Nat.{ℕ, ◌*◌, ◌/◌, ◌<◌}
use mathlib.Core.Path.{◌≡◌, refl}
use mathlib.Core.List.{List, [], ◌∷◌}
use lib.Dec.{lit<}
use lib.ListN.{length, get_or}
use lib.Ieee.{Float, nan}
use Rattle.routines.specs.Constants.{half, one}
use Rattle.routines.specs.Ln.{ln_of}
use Rattle.routines.specs.Ops.{◌⊖◌, ◌⊘◌}
use Rattle.models.specs.Families.{list_length_of}
use Rattle.models.specs.ShelfRules.{min_retained, bounds_of}
use Rattle.models.specs.declared.families.ErrorModel.{ErrorModel}
use Rattle.models.specs.declared.families.ErrorModel.TheVariants.{FreeSingletonWeibull, SingletonPareto}
use Rattle.models.specs.declared.families.GenomeModel.{GenomeModel}
use Rattle.models.specs.declared.families.GenomeModel.TheVariants.{NegativeBinomial, ShelfNegativeBinomial}
use Rattle.models.specs.declared.shelf_rules.Bounds.{Bounds}
use Rattle.fitter.specs.Starts.{logit_of, dispersion_start, ratio_start, pareto_list, weibull_list, plain_start}
use Rattle.fitter.specs.Starts.{shelf_list}
use Rattle.fitter.specs.Starts.{shelf_start, per_row, row_starts, table_starts, seed_starts, all_starts, error_start_at}
use Rattle.fitter.specs.declared.start_writers.ErrorStart.{ErrorStart}
use Rattle.fitter.specs.declared.start_writers.ShelfShape.{ShelfShape}
use Rattle.fitter.proofs.Writing.{turn-length}

module _ (error : ErrorModel) (seed : Float) (e : ErrorStart) (d t p r : Float)
    (ed : d ≡ dispersion_start seed) (et : t ≡ ln_of e.tail) (ep : p ≡ logit_of e.single) (er : r ≡ ratio_start) where
  pub weibull-start : error ≡ FreeSingletonWeibull → (s : Float) → s ≡ ln_of e.shape
      → plain_start error seed e ≡ weibull_list d t p s r
  unfolding plain_start
  weibull-start told s es = rw (told, ed, et, ep, er, es)

  pub pareto-start : error ≡ SingletonPareto → plain_start error seed e ≡ pareto_list d t p r
  unfolding plain_start
  pareto-start told = rw (told, ed, et, ep, er)

pub shelf-part : (share : Float) (s : ShelfShape) (b : Bounds) (p k n : Float) → b ≡ bounds_of s.retained
    → p ≡ logit_of (share ⊘ half) → k ≡ logit_of ((s.retained ⊖ min_retained) ⊘ (one ⊖ min_retained))
    → n ≡ logit_of ((s.concentration ⊖ b.low) ⊘ (b.high ⊖ b.low)) → p ∷ k ∷ n ∷ [] ≡ shelf_list share s
unfolding shelf_list
shelf-part share s b p k n eb ep ek en = rw (ep, ek, en, eb)

-- ---- lengths
pub width_some : (error : ErrorModel) (genome : GenomeModel) → 0 < list_length_of error genome
width_some FreeSingletonWeibull NegativeBinomial = lit< tt
width_some FreeSingletonWeibull ShelfNegativeBinomial = lit< tt
width_some SingletonPareto NegativeBinomial = lit< tt
width_some SingletonPareto ShelfNegativeBinomial = lit< tt

shelf-length : (error : ErrorModel) (seed : Float) (e : ErrorStart) (share : Float) (shapes : List Float) (j : ℕ)
    → length (shelf_start error seed e share shapes j) ≡ list_length_of error ShelfNegativeBinomial
unfolding shelf_start plain_start shelf_list
shelf-length FreeSingletonWeibull seed e share shapes j = refl
shelf-length SingletonPareto seed e share shapes j = refl

row-length : (error : ErrorModel) (genome : GenomeModel) (seed : Float) (e : ErrorStart) (share : Float) (shapes : List Float)
    → length (row_starts error genome seed e share shapes) ≡ per_row genome (length shapes) * list_length_of error genome
unfolding row_starts plain_start
row-length FreeSingletonWeibull NegativeBinomial seed e share shapes = refl
row-length SingletonPareto NegativeBinomial seed e share shapes = refl
row-length error ShelfNegativeBinomial seed e share shapes =
    turn-length (shelf_start error seed e share shapes) (list_length_of error ShelfNegativeBinomial)
    (shelf-length error seed e share shapes) (length shapes / 2)

module _ (error : ErrorModel) (genome : GenomeModel) (seeds table : List Float) (share : Float) (shapes : List Float) where
  abbrev each : ℕ
  each = per_row genome (length shapes) * list_length_of error genome

  seed-length : (i : ℕ) → length (seed_starts error genome seeds table share shapes i) ≡ length table / 3 * each
  unfolding seed_starts table_starts
  seed-length i =
      turn-length (table_starts error genome (get_or seeds i nan) table share shapes) each
      (λ k. row-length error genome (get_or seeds i nan) (error_start_at table k) share shapes) (length table / 3)

  pub all-length : length (all_starts error genome seeds table share shapes) ≡ length seeds * (length table / 3 * each)
  unfolding all_starts
  all-length = turn-length (seed_starts error genome seeds table share shapes) (length table / 3 * each) seed-length (length seeds)
