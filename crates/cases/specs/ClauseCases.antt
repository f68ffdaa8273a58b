-- The clauses of the shelf share, of the starts' hint and order and of the selection beside their limits, as the
-- contracts of `shelf_share`, `fit_starts` and `select_fit` cite them. Definitions only. Assumes nothing.
use Rattle.std.specs.Prelude.{ℕ, suc, ◌≡◌, Bool, true, false, ◌&&◌, List, [], ◌∷◌, eqb, get_or, Float}
use Rattle.std.specs.Prelude.{Option, None, Some}
use Rattle.std.specs.Float.{nan, inf, binary64}
use Rattle.std.specs.Float.Ieee.{neg, of_bits, to_bits}
use Rattle.meaning.specs.Reply.{Reply, refuse, broken, give}
use Rattle.routines.specs.Constants.{zero, half, one, two, three}
use Rattle.routines.specs.Ln.{ln_of}
use Rattle.routines.specs.Ops.{◌⊖◌, ◌⊘◌}
use Rattle.routines.specs.Starts.{dec, pareto_starts, weibull_starts}
use Rattle.models.specs.declared.families.ErrorModel.TheVariants.{SingletonPareto}
use Rattle.models.specs.declared.families.GenomeModel.{GenomeModel}
use Rattle.models.specs.declared.families.GenomeModel.TheVariants.{NegativeBinomial, ShelfNegativeBinomial}
use Rattle.models.specs.declared.fit.SpectrumFit.{SpectrumFit}
use Rattle.fitter.specs.Attempts.{attempt_of, held_as}
use Rattle.fitter.specs.Selection.{select_of}
use Rattle.fitter.specs.Shares.{shelf_share_of}
use Rattle.fitter.specs.Starts.{hint_of, starts_of}
use Rattle.fitter.specs.declared.attempts.FitAttempt.{FitAttempt}
use Rattle.fitter.specs.declared.rejections.FitRejection.TheVariants.{NonFiniteLikelihood, OptimisationFailed}
use Rattle.cases.specs.Cases.{Each}
use Rattle.cases.specs.RuleFits.{set, count, bic, iterations, fit_from, outward, inward, largest}

-- ---- numbers are held side by side by their bits, so that a wrong row is told in a few steps
abbrev pub same : Float → Float → Bool
same a b = eqb (to_bits binary64 a) (to_bits binary64 b)

abbrev pub same_list : List Float → List Float → Bool
same_list [] [] = true
same_list [] (y ∷ ys) = false
same_list (x ∷ xs) [] = false
same_list (x ∷ xs) (y ∷ ys) = same x y && same_list xs ys

abbrev pub same_reply : Reply Float → Reply Float → Bool
same_reply (give a) (give b) = same a b
same_reply (give a) (refuse n) = false
same_reply (give a) (broken place) = false
same_reply (refuse m) (refuse n) = eqb m n
same_reply (refuse m) (give b) = false
same_reply (refuse m) (broken place) = false
same_reply (broken place) r = false

-- ---- shelf share: bins, scale, valley, peak, and the answer
abbrev pub Share : Type 0
Share = List ℕ × Float × ℕ × ℕ × Reply Float

abbrev pub SharesAt : Share → Type 0
SharesAt row = same_reply (shelf_share_of row.0 row.1 row.2 row.3) row.4 ≡ true

-- the lobe is the sum over counts valley..2·peak, and 0.05 where that is not above 0: the last count, and the one behind
-- it; an inverted range; the first count, and the one before it; an end beyond the bins
abbrev pub lobe_rows : List Share
lobe_rows =
    (9 ∷ 0 ∷ 0 ∷ 1 ∷ 0 ∷ [], one, 2, 2, give (dec 1 100))
    ∷ (9 ∷ 0 ∷ 0 ∷ 0 ∷ 9 ∷ [], one, 2, 2, give (dec 5 100))
    ∷ (9 ∷ 9 ∷ 9 ∷ 1 ∷ 9 ∷ [], one, 4, 2, give (dec 1 100))
    ∷ (9 ∷ 9 ∷ 9 ∷ 1 ∷ 9 ∷ [], one, 5, 2, give (dec 5 100))
    ∷ (50 ∷ 1 ∷ 0 ∷ 0 ∷ 0 ∷ 0 ∷ 0 ∷ 9 ∷ 50 ∷ [], one, 2, 4, give (dec 2 10))
    ∷ (50 ∷ 1 ∷ 9 ∷ [], one, 2, 4, give (dec 2 10))
    ∷ []

-- 2·(sum over valley..peak/2)/lobe: peak/2 drops the fraction, and an inverted range sums to 0
abbrev pub low_rows : List Share
low_rows =
    (50 ∷ 1 ∷ 1 ∷ 18 ∷ [], one, 2, 4, give (dec 1 10))
    ∷ (50 ∷ 1 ∷ 1 ∷ 18 ∷ [], one, 2, 5, give (dec 1 10))
    ∷ (50 ∷ 1 ∷ 1 ∷ 18 ∷ [], one, 2, 6, give (dec 2 10))
    ∷ (50 ∷ 1 ∷ 1 ∷ 9 ∷ [], one, 3, 6, give (dec 2 10))
    ∷ (50 ∷ 1 ∷ 1 ∷ 9 ∷ [], one, 3, 5, give (dec 1 100))
    ∷ (50 ∷ 1 ∷ 1 ∷ [], one, 2, 10, give (dec 4 10))
    ∷ []

-- held to 0.01..0.4
abbrev pub bound_rows : List Share
bound_rows =
    (0 ∷ 1 ∷ 0 ∷ 199 ∷ [], one, 2, 4, give (dec 1 100))
    ∷ (0 ∷ 4999999 ∷ 0 ∷ 995000001 ∷ [], one, 2, 4, give (dec 1 100))
    ∷ (0 ∷ 5000001 ∷ 0 ∷ 994999999 ∷ [], one, 2, 4, give (dec 10000002 1000000000))
    ∷ (0 ∷ 1 ∷ 0 ∷ 4 ∷ [], one, 2, 4, give (dec 4 10))
    ∷ (0 ∷ 999999999 ∷ 0 ∷ 4000000001 ∷ [], one, 2, 4, give (dec 1999999998 5000000000))
    ∷ (0 ∷ 1000000001 ∷ 0 ∷ 3999999999 ∷ [], one, 2, 4, give (dec 4 10))
    ∷ []

-- over recovered bins, 2 and 18 of 3 and 36 at scale 2; a scale that is not finite or is below 1 becomes 1
abbrev pub scale_rows : List Share
scale_rows =
    (50 ∷ 3 ∷ 0 ∷ 36 ∷ [], two, 2, 4, give (dec 2 10))
    ∷ (50 ∷ 1 ∷ 0 ∷ 9 ∷ [], dec 6 10, 2, 4, give (dec 2 10))
    ∷ (50 ∷ 1 ∷ 0 ∷ 9 ∷ [], nan, 2, 4, give (dec 2 10))
    ∷ (50 ∷ 1 ∷ 0 ∷ 9 ∷ [], inf false, 2, 4, give (dec 2 10))
    ∷ (50 ∷ 1 ∷ 0 ∷ 9 ∷ [], inf true, 2, 4, give (dec 2 10))
    ∷ []

-- 1 and 2, the lower first
abbrev pub share_refusals : List Share
share_refusals =
    (1 ∷ 1 ∷ [], one, 1, 2, refuse 1)
    ∷ (1 ∷ 1 ∷ [], one, 2, 1, refuse 1)
    ∷ (1 ∷ [], one, 2, 2, refuse 1)
    ∷ (1 ∷ 1 ∷ [], one, 65535, 2, give (dec 5 100))
    ∷ (1 ∷ 1 ∷ [], one, 65536, 2, refuse 2)
    ∷ (1 ∷ 1 ∷ [], one, 2, 65535, give (dec 4 10))
    ∷ (1 ∷ 1 ∷ [], one, 2, 65536, refuse 2)
    ∷ (1 ∷ [], one, 65536, 65536, refuse 1)
    ∷ []

abbrev pub ShareTable : Type 0
ShareTable =
    Each SharesAt lobe_rows
    × Each SharesAt low_rows
    × Each SharesAt bound_rows
    × Each SharesAt scale_rows
    × Each SharesAt share_refusals

-- ---- the hint: 2 when not finite or not above 1
abbrev pub start_numbers : Reply (List Float) → List Float
start_numbers (give list) = list
start_numbers (refuse n) = []
start_numbers (broken place) = []

abbrev pub pareto_of : GenomeModel → List Float → Float → List Float → ℕ → List Float
pareto_of genome seeds hint shapes room =
    start_numbers (starts_of SingletonPareto genome pareto_starts weibull_starts seeds hint (dec 1 10) shapes room)

-- a hint, what is used, and what the fourth number of the first start is the logarithm of: the dispersion above 1, and
-- 0.001 at least
abbrev pub Hints : Float × Float × Float → Type 0
Hints row =
    (same (hint_of row.0) row.1 ≡ true)
    × (same (get_or (pareto_of NegativeBinomial [] row.0 [] 14) 3 nan) (ln_of row.2) ≡ true)

abbrev pub hint_rows : List (Float × Float × Float)
hint_rows =
    (one, two, one)
    ∷ (inward one, two, one)
    ∷ (outward one, outward one, dec 1 1000)
    ∷ (dec 15 10, dec 15 10, half)
    ∷ (three, three, two)
    ∷ (largest, largest, largest)
    ∷ (inf false, two, one)
    ∷ (inf true, two, one)
    ∷ (nan, two, one)
    ∷ (zero, two, one)
    ∷ (neg three, two, one)
    ∷ []

-- ---- seeds first, then the hint; within them the error starts; within those the shelf shapes: the starts, and the numbers
-- at some places
abbrev pub picked : List Float → List ℕ → List Float
picked list [] = []
picked list (i ∷ is) = get_or list i nan ∷ picked list is

-- seed 3 and hint 5: the dispersion and the tail exponent of each of four starts of seven numbers
abbrev pub SeedsThenHint : Type 0
SeedsThenHint =
    same_list
    (picked (pareto_of NegativeBinomial (three ∷ []) (dec 5 1) [] 28) (3 ∷ 4 ∷ 10 ∷ 11 ∷ 17 ∷ 18 ∷ 24 ∷ 25 ∷ []))
    (ln_of two
    ∷ ln_of (dec 15 10)
    ∷ ln_of two
    ∷ ln_of (dec 25 10)
    ∷ ln_of (dec 4 1)
    ∷ ln_of (dec 15 10)
    ∷ ln_of (dec 4 1)
    ∷ ln_of (dec 25 10)
    ∷ [])
    ≡ true

-- hint 5, and shelves that keep 0.6 and 0.8: the tail exponent, and what is kept above 0.3, of each of four starts of ten
-- numbers
abbrev pub kept_above : Float → Float
kept_above retained =
    let part = (retained ⊖ dec 3 10) ⊘ (one ⊖ dec 3 10) in ln_of (part ⊘ (one ⊖ part))

abbrev pub StartsThenShapes : Type 0
StartsThenShapes =
    same_list
    (picked
    (pareto_of ShelfNegativeBinomial [] (dec 5 1) (dec 6 10 ∷ dec 4 1 ∷ dec 8 10 ∷ dec 4 1 ∷ []) 40)
    (4 ∷ 8 ∷ 14 ∷ 18 ∷ 24 ∷ 28 ∷ 34 ∷ 38 ∷ []))
    (ln_of (dec 15 10)
    ∷ kept_above (dec 6 10)
    ∷ ln_of (dec 15 10)
    ∷ kept_above (dec 8 10)
    ∷ ln_of (dec 25 10)
    ∷ kept_above (dec 6 10)
    ∷ ln_of (dec 25 10)
    ∷ kept_above (dec 8 10)
    ∷ [])
    ≡ true

-- ---- selection: four attempts, each with its BIC, and which is taken
pub data Tried : Type 0 where
  valid : Float → Tried
  rejected : Float → Tried
  failed : Tried

-- the iterations of a fit have its number
abbrev pub tried_as : ℕ → Tried → FitAttempt
tried_as i (valid x) =
    attempt_of SingletonPareto NegativeBinomial (Some (fit_from (set bic x ∷ count iterations i ∷ []))) None 0 0
tried_as i (rejected x) =
    attempt_of
    SingletonPareto
    NegativeBinomial
    (Some (fit_from (set bic x ∷ count iterations i ∷ [])))
    (Some NonFiniteLikelihood)
    0
    0
tried_as i failed =
    attempt_of
    SingletonPareto
    NegativeBinomial
    (held_as false (fit_from (set bic (neg largest) ∷ count iterations i ∷ [])))
    (Some OptimisationFailed)
    0
    0

abbrev pub all_tried : ℕ → List Tried → List FitAttempt
all_tried i [] = []
all_tried i (t ∷ ts) = tried_as i t ∷ all_tried (suc i) ts

abbrev pub taken_of : Option SpectrumFit → Option ℕ
taken_of None = None
taken_of (Some fit) = Some fit.best_iterations

abbrev pub Selection : Type 0
Selection = List Tried × Option ℕ

abbrev pub Takes : Selection → Type 0
Takes row = taken_of (select_of (all_tried 1 row.0)) ≡ row.1

-- a rejected one is passed over, and the earlier kept on a tie
abbrev pub order_rows : List Selection
order_rows =
    (failed ∷ failed ∷ failed ∷ failed ∷ [], None)
    ∷ (rejected one ∷ failed ∷ rejected one ∷ failed ∷ [], None)
    ∷ (rejected one ∷ valid two ∷ rejected one ∷ failed ∷ [], Some 2)
    ∷ (valid two ∷ valid two ∷ valid two ∷ valid two ∷ [], Some 1)
    ∷ (valid two ∷ valid one ∷ valid one ∷ valid one ∷ [], Some 2)
    ∷ (valid (dec 4 1) ∷ valid three ∷ valid two ∷ valid one ∷ [], Some 4)
    ∷ (valid one ∷ valid two ∷ valid three ∷ valid (dec 4 1) ∷ [], Some 1)
    ∷ []

abbrev pub two_of : Float → Float → List Tried
two_of first next = failed ∷ valid first ∷ valid next ∷ failed ∷ []

-- only below best minus 1e-9·(1 + the larger |BIC|): at it, and the next double
abbrev pub tolerance_rows : List Selection
tolerance_rows =
    -- 100 - 1.01e-7
    (two_of (dec 100 1) (dec 99999999899 1000000000), Some 2)
    ∷ (two_of (dec 100 1) (inward (dec 99999999899 1000000000)), Some 3)
    -- the larger is the second: -1e-9·(1 + 1e-9)
    ∷ (two_of zero (neg (of_bits binary64 0x3e112e0be870a00d)), Some 2)
    ∷ (two_of zero (neg (outward (of_bits binary64 0x3e112e0be870a00d))), Some 3)
    -- the larger is the first: 2e-9 - 1e-9·(1 + 2e-9)
    ∷ (two_of (dec 2 1000000000) (of_bits binary64 0x3e112e0be79343a7), Some 2)
    ∷ (two_of (dec 2 1000000000) (inward (of_bits binary64 0x3e112e0be79343a7)), Some 3)
    -- each is held against the best, and not against the one before: 100, 100 - 5e-8, 100 - 1.2e-7
    ∷ (valid (dec 100 1) ∷ valid (dec 9999999995 100000000) ∷ valid (dec 9999999988 100000000) ∷ failed ∷ [], Some 3)
    ∷ []

-- a NaN or an infinity takes no place, and keeps its own
abbrev pub odd_rows : List Selection
odd_rows =
    (two_of nan one, Some 2)
    ∷ (two_of one nan, Some 2)
    ∷ (two_of (inf false) one, Some 2)
    ∷ (two_of one (inf false), Some 2)
    ∷ (two_of (inf true) one, Some 2)
    ∷ (two_of one (inf true), Some 2)
    ∷ (two_of one (neg largest), Some 3)
    ∷ []

abbrev pub SelectionTable : Type 0
SelectionTable = Each Takes order_rows × Each Takes tolerance_rows × Each Takes odd_rows

-- ---- all of them
abbrev pub ClauseTable : Type 0
ClauseTable = ShareTable × Each Hints hint_rows × SeedsThenHint × StartsThenShapes × SelectionTable
