-- A table's rule as one computed test over the whole of it: the numbers of the rows that break it, so that a check
-- that fails shows them. Definitions only. Assumes nothing.
use Rattle.std.specs.Prelude.{ℕ, suc, Bool, true, false, List, [], ◌∷◌}

abbrev pub keep_if : Bool → ℕ → List ℕ → List ℕ
keep_if true i is = is
keep_if false i is = i ∷ is

-- counted from i
abbrev pub wrong : {A : Type 0} → (ℕ → A → Bool) → ℕ → List A → List ℕ
wrong rule i [] = []
wrong rule i (x ∷ xs) = keep_if (rule i x) i (wrong rule (suc i) xs)
