-- A list out of its entries. Definitions only. Assumes nothing.
use Rattle.std.specs.Prelude.{ℕ, zero, suc, List, [], ◌∷◌}

-- f 0, f 1, .., f (n - 1)
unfoldable pub list_of : {A : Type 0} → (ℕ → A) → ℕ → List A
list_of f zero = []
list_of f (suc n) = f 0 ∷ list_of (λ (i : ℕ). f (suc i)) n
