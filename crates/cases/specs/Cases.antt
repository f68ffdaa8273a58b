-- Document 01's cases marked P as one table: its rows, and what a row says of the definitions that the contracts cite.
-- Definitions only. Assumes nothing.
use Rattle.std.specs.Prelude.{ℕ, ◌≡◌, Bool, true, false, cond, List, [], ◌∷◌, get_or, Float, Option, None, Some}
use Rattle.std.specs.Float.{nan}
use Rattle.meaning.specs.Reply.{give}
use Rattle.routines.specs.Constants.{one}
use Rattle.routines.specs.Starts.{dec}
use Rattle.models.specs.Walk.{walk_of}
use Rattle.fitter.specs.Attempts.{valid_of, candidate_in}
use Rattle.fitter.specs.Recovering.{recover_bins_of}
use Rattle.fitter.specs.Selection.{chosen, select_of}
use Rattle.fitter.specs.Shares.{shelf_share_of}
use Rattle.fitter.specs.declared.attempts.FitAttempt.{FitAttempt}

abbrev pub Each : {A : Type 0} → (A → Type 0) → List A → Type 0
Each P [] = Unit {0}
Each P (x ∷ xs) = P x × Each P xs

-- ---- recovered: a bin, a scale, and what it gives
abbrev pub Recovers : ℕ × Float × ℕ → Type 0
Recovers row = recover_bins_of (row.0 ∷ 0 ∷ []) row.1 2 ≡ give (row.2 ∷ 0 ∷ [])

abbrev pub recovered_rows : List (ℕ × Float × ℕ)
recovered_rows = (3, dec 2 1, 2) ∷ (5, dec 25 10, 2) ∷ (1, dec 3 1, 0) ∷ (9, dec 11 10, 8) ∷ []

-- ---- share: bins, valley, peak, and the share
abbrev pub Shares : List ℕ × ℕ × ℕ × Float → Type 0
Shares row = shelf_share_of row.0 one row.1 row.2 ≡ give row.3

abbrev pub share_rows : List (List ℕ × ℕ × ℕ × Float)
share_rows =
    (9 ∷ 1 ∷ 2 ∷ 6 ∷ 3 ∷ [], 2, 4, dec 2 12)
    ∷ (9 ∷ 5 ∷ 1 ∷ 2 ∷ [], 2, 4, dec 4 10)
    ∷ (10 ∷ 4 ∷ 2 ∷ 6 ∷ 8 ∷ 6 ∷ [], 3, 5, dec 1 100)
    ∷ []

-- ---- walk over four probabilities with ceiling 4: the allowed share, and the cutoff. A fifth stands at the ceiling,
-- where no walk goes: one through the ceiling would find a sum of 1.25 there, above 1, and answer 4 for none.
abbrev pub probabilities : ℕ → Float
probabilities c = get_or (dec 125 1000 ∷ dec 125 1000 ∷ dec 25 100 ∷ dec 25 100 ∷ dec 5 10 ∷ []) c nan

abbrev pub Walks : Float × Option ℕ → Type 0
Walks row = walk_of probabilities row.0 4 ≡ row.1

abbrev pub walk_rows : List (Float × Option ℕ)
walk_rows = (dec 1 10, Some 2) ∷ (dec 25 100, Some 2) ∷ (dec 5 10, Some 3) ∷ (dec 1 1, None) ∷ []

-- ---- selection of two: their BICs, and whether the second is taken
abbrev pub Selects : Float × Float × Bool → Type 0
Selects row =
    (a b : FitAttempt) → valid_of a ≡ true → valid_of b ≡ true
    → (candidate_in a).bic ≡ row.0 → (candidate_in b).bic ≡ row.1
    → select_of (a ∷ b ∷ []) ≡ cond row.2 (chosen (candidate_in b)) (chosen (candidate_in a))

abbrev pub selection_rows : List (Float × Float × Bool)
selection_rows = (dec 100 1, dec 9999999995 100000000, false) ∷ (dec 100 1, dec 999999 10000, true) ∷ []

-- ---- all thirteen
abbrev pub Table : Type 0
Table = Each Recovers recovered_rows × Each Shares share_rows × Each Walks walk_rows × Each Selects selection_rows
