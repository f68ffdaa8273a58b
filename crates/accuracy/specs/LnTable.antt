-- WHAT IS CLAIMED OF L in a row of ln's table, with no real number: it is the `f64` nearest to ln C - H.
-- So ln C lies between H + the middle of L and its lower neighbour, and H + the middle of L and its upper one.
-- Definitions only. Assumes nothing.
use Rattle.std.specs.Prelude.{true, false}
use Rattle.entries.specs.Fractions.{Fraction, plus, value_of, next_up, next_down, middle}
use Rattle.entries.specs.LnTable.{Patterns}
use Rattle.accuracy.specs.Accuracy.{ExpAtMost, ExpAtLeast}

-- e ^ t ≤ x
abbrev pub AtMost : Fraction → Fraction → Type 0
AtMost t (true, p, q) = ⊥
AtMost (s, a, c) (false, p, q) = ExpAtMost s a c p q

-- x ≤ e ^ t
abbrev pub AtLeast : Fraction → Fraction → Type 0
AtLeast t (true, p, q) = ⊥
AtLeast (s, a, c) (false, p, q) = ExpAtLeast s a c p q

-- e ^ (H + the lower middle) ≤ C ≤ e ^ (H + the upper middle)
abbrev pub LogNearest : Patterns → Type 0
LogNearest (c, b, h, l) =
    AtMost (plus (value_of h) (middle (next_down l) l)) (value_of c)
    × AtLeast (plus (value_of h) (middle l (next_up l))) (value_of c)
