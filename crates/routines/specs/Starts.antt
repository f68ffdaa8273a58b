-- The error starts of document 01, as it writes them, in decimal: rows of tail exponent, singleton probability and
-- shape. Definitions only. Assumes nothing.
use Rattle.std.specs.Prelude.{ℕ, false, List, [], ◌∷◌, Float}
use Rattle.std.specs.Float.Ieee.{round}
use Rattle.std.specs.Float.{binary64}

-- the `f64` nearest to n / d
abbrev pub dec : ℕ → ℕ → Float
dec n d = round binary64 false n d

-- (1.5, 0.8), (2.5, 0.95); shape 0, unread
unfoldable pub pareto_starts : List Float
pareto_starts = dec 15 10 ∷ dec 8 10 ∷ dec 0 1 ∷ dec 25 10 ∷ dec 95 100 ∷ dec 0 1 ∷ []

-- (1.5, 0.8, 0.05), (2.5, 0.9, 0.5), (2.0, 0.95, 1.0)
unfoldable pub weibull_starts : List Float
weibull_starts =
    dec 15 10 ∷ dec 8 10 ∷ dec 5 100 ∷ dec 25 10 ∷ dec 9 10 ∷ dec 5 10 ∷ dec 20 10 ∷ dec 95 100 ∷ dec 10 10 ∷ []
