-- Exact fractions with a sign, the value of a bit pattern as one, and what it is to be the `f64` nearest to a number.
-- Nothing is rounded or cut off. Definitions only. Assumes nothing.
use Rattle.std.specs.Prelude.{ℕ, suc, ◌+◌, ◌-◌, ◌*◌, ◌%◌, ◌^◌, Bool, false, not, ◌&&◌, cond, T, ltb, eqb, Float}
use Rattle.std.specs.Bool.{beq}
use Rattle.std.specs.Float.{nan, inf, fin, binary64}
use Rattle.std.specs.Float.Ieee.{up, down, unlike, below, of_bits}
use Rattle.std.specs.Float.Ieee.Scale.{finite}

-- (s, a, c) is a / c, or - a / c where s is true, for a c above 0
abbrev pub Fraction : Type 0
Fraction = Bool × ℕ × ℕ

abbrev pub ratio : ℕ → ℕ → Fraction
ratio a c = (false, a, c)

abbrev pub one : Fraction
one = ratio 1 1

-- ± a / e and ± b / e, added
abbrev pub sum_over : ℕ → Bool → ℕ → Bool → ℕ → Fraction
sum_over e s a t b = cond (beq s t) (s, a + b, e) (cond (ltb a b) (t, b - a, e) (s, a - b, e))

abbrev pub plus : Fraction → Fraction → Fraction
plus (s, a, c) (t, b, d) = sum_over (c * d) s (a * d) t (b * c)

abbrev pub times : Fraction → Fraction → Fraction
times (s, a, c) (t, b, d) = (unlike s t, a * b, c * d)

abbrev pub half : Fraction → Fraction
half (s, a, c) = (s, a, 2 * c)

abbrev pub less : Fraction → Fraction → Bool
less (s, a, c) (t, b, d) = below s (a * d) t (b * c)

-- a whole number of 2 ^ -w
abbrev pub whole_in : ℕ → Fraction → Bool
whole_in w (s, a, c) = eqb (a * 2 ^ w % c) 0

-- ---- the value with a pattern: m * 2 ^ e for a finite one. A NaN and an infinity have none, and `is_number` tells
abbrev pub exactly : Float → Fraction
exactly nan = ratio 0 1
exactly (inf s) = ratio 0 1
exactly (fin s m e) = (s, m * up e, down e)

abbrev pub value_of : ℕ → Fraction
value_of bits = exactly (of_bits binary64 bits)

abbrev pub is_finite : ℕ → Bool
is_finite bits = finite (of_bits binary64 bits)

-- finite, and not -0
abbrev pub is_number : ℕ → Bool
is_number bits = is_finite bits && not (eqb bits (2 ^ 63))

-- The patterns of the next value up and the next value down. Below zero, where the sign's bit adds 2 ^ 63, a larger
-- pattern is a lower value; just below 0 stands 2 ^ 63 + 1. No value lies between: `none_above`, `none_below` of
-- Neighbours.antt
abbrev pub next_up : ℕ → ℕ
next_up bits = cond (ltb bits (2 ^ 63)) (suc bits) (bits - 1)

abbrev pub next_down : ℕ → ℕ
next_down bits = cond (eqb bits 0) (2 ^ 63 + 1) (cond (ltb bits (2 ^ 63)) (bits - 1) (suc bits))

-- the value with the pattern k does not lie between those with the patterns m and n
abbrev pub NotBetween : ℕ → ℕ → ℕ → Type 0
NotBetween m k n = T (less (value_of m) (value_of k)) → T (less (value_of k) (value_of n)) → ⊥

abbrev pub middle : ℕ → ℕ → Fraction
middle a b = half (plus (value_of a) (value_of b))

-- ---- the `f64` nearest to a number x, with no other as near: x lies between the middles to its two neighbours
-- x is given by two tests: which fractions are less than x, and which are more
abbrev pub nearest : (Fraction → Bool) → (Fraction → Bool) → ℕ → Bool
nearest is_less is_more bits =
    is_number bits && is_finite (next_down bits) && is_finite (next_up bits)
    && is_less (middle (next_down bits) bits) && is_more (middle bits (next_up bits))
