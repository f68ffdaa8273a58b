-- A float as text: its pattern in 16 hexadecimal digits, which is the value; then, for eyes, the number in decimal with six
-- places where its size is below 2^53, and `-` where it is not, or is a NaN. The last place is worked out in f64, a half away
-- from zero, so it may be one off. Definitions only. Assumes nothing.
use Rattle.std.specs.Prelude.{ℕ, ◌/◌, ◌%◌, Bool, cond, List, [], ◌∷◌, ◌++◌, Float}
use Rattle.std.specs.Float.{binary64}
use Rattle.std.specs.Float.Ieee.{lt, le, neg, of_bits, to_unsigned}
use Rattle.io.specs.Digits.{last_digits}
use Rattle.routines.specs.Constants.{zero, one}
use Rattle.routines.specs.Ops.{◌⊕◌, ◌⊖◌, ◌⊗◌}
use Rattle.routines.specs.Whole.{round_of, floor_of}
use Rattle.listing.specs.Decimal.{digit_of, decimal_of}
use Rattle.listing.specs.Listing.{ascii}

-- 1000000.0
abbrev pub MILLION : Float
MILLION = of_bits binary64 0x412e848000000000

-- 9007199254740992.0, 2^53
abbrev pub FAR : Float
FAR = of_bits binary64 0x4340000000000000

-- ---- a number t of 0 or more, below 2^53: its whole part, and the rest in millionths, rounded; a whole million is carried
abbrev pub rest_of : Float → Float
rest_of t = round_of ((t ⊖ floor_of t) ⊗ MILLION)

unfoldable pub carries : Float → Bool
carries t = le MILLION (rest_of t)

unfoldable pub whole_of : Float → ℕ
whole_of t = to_unsigned 64 (cond (carries t) (floor_of t ⊕ one) (floor_of t))

unfoldable pub millionths_of : Float → ℕ
millionths_of t = cond (carries t) 0 (to_unsigned 64 (rest_of t))

-- six digits
abbrev pub six_of : ℕ → List ℕ
six_of n = digit_of (n / 100000 % 10) ∷ digit_of (n / 10000 % 10) ∷ digit_of (n / 1000 % 10) ∷ digit_of (n / 100 % 10)
    ∷ digit_of (n / 10 % 10) ∷ digit_of (n % 10) ∷ []

unfoldable pub places_of : Float → List ℕ
places_of t = decimal_of (whole_of t) ++ (ascii "." ++ six_of (millionths_of t))

-- ---- with its sign, and how far it goes
unfoldable pub size_of : Float → Float
size_of x = cond (lt x zero) (neg x) x

unfoldable pub eyes_of : Float → List ℕ
eyes_of x =
    cond (lt (size_of x) FAR) (cond (lt x zero) (ascii "-" ++ places_of (size_of x)) (places_of (size_of x))) (ascii "-")

-- of a pattern
unfoldable pub float_of : ℕ → List ℕ
float_of bits = last_digits 16 16 bits ++ (ascii " " ++ eyes_of (of_bits binary64 bits))
