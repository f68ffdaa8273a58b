-- What a loop over a range of counts works out: a step for each count in turn, from the first on. Definitions only.
-- Assumes nothing.
use Rattle.std.specs.Prelude.{ℕ, zero, suc, ◌-◌}

-- the step for each of n counts, from a on
unfoldable pub steps : {A : Type 0} → (ℕ → A → A) → ℕ → ℕ → A → A
steps f a zero z = z
steps f a (suc n) z = steps f (suc a) n (f a z)

-- the step for each count from a to b - 1: none where b is at most a
unfoldable pub fold : {A : Type 0} → (ℕ → A → A) → ℕ → ℕ → A → A
unfolding steps
fold f a b z = steps f a (b - a) z
