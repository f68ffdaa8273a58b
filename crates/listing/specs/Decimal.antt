-- A number in decimal: its digits in ASCII, the highest first. Definitions only. Assumes nothing.
use Rattle.std.specs.Prelude.{ℕ, zero, suc, ◌+◌, ◌*◌, ◌-◌, ◌/◌, ◌%◌, ◌≤◌, cond, List, [], ◌∷◌, ◌++◌, ltb}

-- the code of a digit, 0 to 9
abbrev pub digit_of : ℕ → ℕ
digit_of d = 48 + d

-- n in at most k digits more than one
unfoldable pub digits_of : ℕ → ℕ → List ℕ
digits_of zero n = digit_of n ∷ []
digits_of (suc k) n = let high = digits_of k (n / 10) in cond (ltb n 10) (digit_of n ∷ []) (high ++ (digit_of (n % 10) ∷ []))

-- n is more than enough
unfoldable pub decimal_of : ℕ → List ℕ
decimal_of n = digits_of n n

-- the number that some digits stand for, behind digits that stand for v
abbrev pub value_of : ℕ → List ℕ → ℕ
value_of v [] = v
value_of v (d ∷ ds) = value_of (v * 10 + (d - digit_of 0)) ds

-- each of some bytes is a digit
abbrev pub Digits : List ℕ → Type 0
Digits [] = Unit {0}
Digits (d ∷ ds) = (digit_of 0 ≤ d) × (d ≤ digit_of 9) × Digits ds
