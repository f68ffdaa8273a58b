-- What the theorems speak of: the words that are accepted, and tables of words. Definitions only. Assumes nothing.
use Rattle.std.specs.Prelude.{ℕ, ◌≤◌, ◌≡◌, List, ◌∷◌, ◌++◌, map, length, Option}
use Rattle.listing.specs.Decimal.{Digits}
use Rattle.arguments.specs.Numbers.{point}

-- 1 to 15 digits
pub record Number (bytes : List ℕ) : Type 0 where
  pub digits : Digits bytes
  pub one : 1 ≤ length bytes
  pub most : length bytes ≤ 15

-- 1 to 15 digits, with a point at one place
pub record Pointed (word : List ℕ) : Type 0 where
  pub whole : List ℕ
  pub places : List ℕ
  pub parts : word ≡ whole ++ (point ∷ places)
  pub number : Number (whole ++ places)

-- each word of a table is read as the table says
abbrev pub Rows : {A : Type 0} → (List ℕ → Option A) → List (List ℕ × Option A) → Type 0
Rows {A} read rows =
    map (λ (row : List ℕ × Option A). read row.0) rows ≡ map (λ (row : List ℕ × Option A). row.1) rows
