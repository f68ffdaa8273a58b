-- Every start of a search, as spectrum_fitter.rs has it, operation by operation: the seeds and then the hint, for each
-- of them the error starts of a table, and for each of those the shelf's shapes. Definitions only. Assumes nothing.
use Rattle.std.specs.Prelude.{ℕ, ◌+◌, ◌*◌, ◌/◌, ◌%◌, ◌≡◌, ◌&&◌, not, cond, List, [], ◌∷◌, ◌++◌, eqb, length, get_or}
use Rattle.std.specs.Prelude.{Float}
use Rattle.std.specs.Float.{nan}
use Rattle.std.specs.Float.Ieee.{neg, lt}
use Rattle.std.specs.Float.Ieee.Scale.{finite}
use Rattle.meaning.specs.Numbers as number
use Rattle.meaning.specs.Over.{over}
use Rattle.meaning.specs.Reply.{Reply, give, Test, test, chain}
use Rattle.meaning.specs.Rows.{in_order, too_short}
use Rattle.routines.specs.Constants.{zero, half, one, two, three}
use Rattle.routines.specs.Ln.{ln_of}
use Rattle.routines.specs.Ops.{◌⊖◌, ◌⊘◌}
use Rattle.routines.specs.Pick.{max_of}
use Rattle.routines.specs.Starts.{dec}
use Rattle.models.specs.Params.{ratio_low, ratio_high}
use Rattle.models.specs.ShelfRules.{min_retained, bounds_of}
use Rattle.models.specs.declared.families.ErrorModel.{ErrorModel}
use Rattle.models.specs.declared.families.ErrorModel.TheVariants.{FreeSingletonWeibull, SingletonPareto}
use Rattle.models.specs.declared.families.GenomeModel.{GenomeModel}
use Rattle.models.specs.declared.families.GenomeModel.TheVariants.{NegativeBinomial, ShelfNegativeBinomial}
use Rattle.fitter.specs.InTurn.{in_turn}
use Rattle.fitter.specs.StartTables.{table_of, wrong_tables}
use Rattle.fitter.specs.declared.start_writers.ErrorStart.{ErrorStart}
use Rattle.fitter.specs.declared.start_writers.ShelfShape.{ShelfShape}
use Rattle.fitter.specs.declared.start_writers.StartPlan.{StartPlan}

-- ---- one start
unfoldable pub logit_of : Float → Float
logit_of p = ln_of (p ⊘ (one ⊖ p))

-- 2 for a hint that is not finite or not above 1
unfoldable pub hint_of : Float → Float
hint_of hint = cond (finite hint && lt one hint) hint two

unfoldable pub dispersion_start : Float → Float
dispersion_start seed = ln_of (max_of (seed ⊖ one) (dec 1 1000))

-- near a lobe of two copies
unfoldable pub ratio_start : Float
ratio_start = logit_of ((dec 19 10 ⊖ ratio_low) ⊘ (ratio_high ⊖ ratio_low))

-- a start without a shelf, from its own coordinates: weights, mode, dispersion, the error's and the repeat's ratio
abbrev pub pareto_list : Float → Float → Float → Float → List Float
pareto_list dispersion tail single ratio = zero ∷ neg three ∷ zero ∷ dispersion ∷ tail ∷ single ∷ ratio ∷ []

abbrev pub weibull_list : Float → Float → Float → Float → Float → List Float
weibull_list dispersion tail single shape ratio =
    zero ∷ neg three ∷ zero ∷ dispersion ∷ tail ∷ single ∷ shape ∷ ratio ∷ []

-- the Pareto family reads no shape
unfoldable pub plain_start : ErrorModel → Float → ErrorStart → List Float
plain_start FreeSingletonWeibull seed e =
    weibull_list (dispersion_start seed) (ln_of e.tail) (logit_of e.single) (ln_of e.shape) ratio_start
plain_start SingletonPareto seed e = pareto_list (dispersion_start seed) (ln_of e.tail) (logit_of e.single) ratio_start

-- what a shelf adds: its share, and its shape inside the bounds
unfoldable pub shelf_list : Float → ShelfShape → List Float
shelf_list share s =
    let bounds = bounds_of s.retained in
    logit_of (share ⊘ half)
    ∷ logit_of ((s.retained ⊖ min_retained) ⊘ (one ⊖ min_retained))
    ∷ logit_of ((s.concentration ⊖ bounds.low) ⊘ (bounds.high ⊖ bounds.low))
    ∷ []

-- ---- all starts
-- row i of a table of error starts
abbrev pub error_start_at : List Float → ℕ → ErrorStart
error_start_at table i =
    record {
      tail = get_or table (3 * i) nan;
      single = get_or table (3 * i + 1) nan;
      shape = get_or table (3 * i + 2) nan;
    }

-- pair j of the shelf's shapes
abbrev pub shape_at : List Float → ℕ → ShelfShape
shape_at shapes j = record { retained = get_or shapes (2 * j) nan; concentration = get_or shapes (2 * j + 1) nan }

unfoldable pub shelf_start : ErrorModel → Float → ErrorStart → Float → List Float → ℕ → List Float
shelf_start error seed e share shapes j = plain_start error seed e ++ shelf_list share (shape_at shapes j)

-- one for each pair of a shelf's shapes
abbrev pub shape_starts : ErrorModel → Float → ErrorStart → Float → List Float → List Float
shape_starts error seed e share shapes = in_turn (shelf_start error seed e share shapes) (length shapes / 2)

-- one start, or one for each pair of a shelf's shapes
unfoldable pub row_starts : ErrorModel → GenomeModel → Float → ErrorStart → Float → List Float → List Float
row_starts error NegativeBinomial seed e share shapes = plain_start error seed e
row_starts error ShelfNegativeBinomial seed e share shapes = shape_starts error seed e share shapes

unfoldable pub table_starts : ErrorModel → GenomeModel → Float → List Float → Float → List Float → ℕ → List Float
table_starts error genome seed table share shapes i = row_starts error genome seed (error_start_at table i) share shapes

-- those of one seed
abbrev pub one_seed : ErrorModel → GenomeModel → Float → List Float → Float → List Float → List Float
one_seed error genome seed table share shapes = in_turn (table_starts error genome seed table share shapes) (length table / 3)

unfoldable pub seed_starts : ErrorModel → GenomeModel → List Float → List Float → Float → List Float → ℕ → List Float
seed_starts error genome seeds table share shapes i = one_seed error genome (get_or seeds i nan) table share shapes

unfoldable pub all_starts : ErrorModel → GenomeModel → List Float → List Float → Float → List Float → List Float
all_starts error genome seeds table share shapes =
    in_turn (seed_starts error genome seeds table share shapes) (length seeds)

-- ---- the same of what the code writes from
abbrev pub planned_shelf : StartPlan → Float → ErrorStart → ShelfShape → List Float
planned_shelf p seed e s = plain_start p.error seed e ++ shelf_list p.share s

abbrev pub planned_shapes : StartPlan → Float → ErrorStart → List Float
planned_shapes p seed e = shape_starts p.error seed e p.share p.shapes.now

abbrev pub planned_row : StartPlan → Float → ErrorStart → List Float
planned_row p seed e = row_starts p.error p.genome seed e p.share p.shapes.now

abbrev pub planned_seed : StartPlan → Float → List Float
planned_seed p seed = one_seed p.error p.genome seed p.table.now p.share p.shapes.now

abbrev pub planned : StartPlan → List Float → List Float
planned p seeds = all_starts p.error p.genome seeds p.table.now p.share p.shapes.now

-- ---- what a writer of `list` into lent memory states: r numbers, over what stood there
abbrev pub Wrote : List Float → ℕ → List Float → List Float → Type 0
Wrote list r before after = (r ≡ length list) × (after ≡ over list before)

-- ---- the answer
-- how many starts an error start has
abbrev pub per_row : GenomeModel → ℕ → ℕ
per_row NegativeBinomial shapes = 1
per_row ShelfNegativeBinomial shapes = shapes / 2

-- 7: the shelf's shapes are no pairs, read or not
abbrev pub odd_shapes : ℕ → List Test
odd_shapes n = test (not (eqb (n % 2) 0)) number.wrong_length ∷ []

-- `room` is the lent buffer's length
unfoldable pub starts_of :
    ErrorModel → GenomeModel → List Float → List Float → List Float → Float → Float → List Float → ℕ → Reply (List Float)
starts_of error genome pareto weibull seeds hint share shapes room =
    let starts = all_starts error genome (seeds ++ (hint_of hint ∷ [])) (table_of error pareto weibull) share shapes in
    chain
    (in_order (wrong_tables (length pareto) (length weibull) ∷ odd_shapes (length shapes) ∷ too_short room
    (length starts) ∷ []))
    (give starts)
