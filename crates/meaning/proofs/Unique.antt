-- Two answers that keep one statement are the same, and so are two states of lent memory. Assumes nothing.
use mathlib.Core.Path.{◌≡◌, sym, ◌∙◌}

-- by an equation with a definition of the arguments alone
pub once : {A : Type 0} {d a b : A} → a ≡ d → b ≡ d → a ≡ b
once p q = p ∙ sym q

-- by an equation of what the answer says, where answers that say the same are the same
pub said-once : {A B : Type 0} (says : A → B) → ((a b : A) → says a ≡ says b → a ≡ b) → {d : B} (a b : A) → says a ≡ d → says b ≡ d → a ≡ b
said-once says injective a b p q = injective a b (once p q)
