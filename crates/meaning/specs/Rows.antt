-- The rows of document 01's table of numbers, as segments of a chain. The chain of a call is put together from rows in
-- the order of the numbers; a row has a test for each thing of its kind that the call takes. What speaks of a spectrum,
-- a list or a run stands in the crate that has it. Definitions only. Assumes nothing.
use Rattle.std.specs.Prelude.{ℕ, List, [], ◌∷◌, ◌++◌, ltb, eqb}
use Rattle.meaning.specs.Numbers as number
use Rattle.meaning.specs.Reply.{Test, test}

-- a chain out of its rows, or out of chains
abbrev pub in_order : List (List Test) → List Test
in_order [] = []
in_order (row ∷ rows) = row ++ in_order rows

-- what bins, peak, valley, a count, a window end and the number of runs may be at most
abbrev pub most : ℕ
most = 65535

-- 1: peak, valley or the number of bins is below 2
abbrev pub below_two : List ℕ → List Test
below_two [] = []
below_two (n ∷ ns) = test (ltb n 2) number.too_small ∷ below_two ns

-- 2: bins, peak, valley, a count, a window end or the number of runs is above 65,535
abbrev pub above_most : List ℕ → List Test
above_most [] = []
above_most (n ∷ ns) = test (ltb most n) number.too_large ∷ above_most ns

-- 5: the window end is 0
abbrev pub no_window : ℕ → List Test
no_window end = test (eqb end 0) number.no_window ∷ []

-- 5: the window end is 0 or beyond the bins
abbrev pub outside : ℕ → ℕ → List Test
outside end bins = no_window end ++ (test (ltb bins end) number.no_window ∷ [])

-- 10: a lent buffer is too short
abbrev pub too_short : ℕ → ℕ → List Test
too_short room need = test (ltb room need) number.too_short ∷ []

-- 2 and 5: what a call that takes a window end and no bins refuses it for
abbrev pub window_tests : ℕ → List Test
window_tests end = in_order (above_most (end ∷ []) ∷ no_window end ∷ [])
