-- The numbers of a command line: a decimal is 1 to 15 digits with at most one point anywhere among, before or behind
-- them, a whole number 1 to 15 digits. Nothing else is one. Definitions only. Assumes nothing.
use Rattle.std.specs.Prelude.{ℕ, ◌^◌, Bool, true, cond, ◌&&◌, List, [], ◌∷◌, ◌++◌, leb, eqb, length, Float}
use Rattle.routines.specs.Ops.{◌⊘◌, of_count}
use Rattle.listing.specs.Decimal.{digit_of, value_of}
use Rattle.std.specs.Prelude.{Option, None, Some}

abbrev pub point : ℕ
point = 46

-- the bytes in front of the first point, and those behind it: all of them, and none, where there is no point
unfoldable pub before : List ℕ → List ℕ
before [] = []
before (b ∷ bs) = let rest = before bs in cond (eqb b point) [] (b ∷ rest)

unfoldable pub behind : List ℕ → List ℕ
behind [] = []
behind (b ∷ bs) = let rest = behind bs in cond (eqb b point) bs rest

abbrev pub is_digit : ℕ → Bool
is_digit b = leb (digit_of 0) b && leb b (digit_of 9)

unfoldable pub all_digits : List ℕ → Bool
all_digits [] = true
all_digits (b ∷ bs) = is_digit b && all_digits bs

abbrev pub few : ℕ → Bool
few n = leb 1 n && leb n 15

-- 1 to 15 digits
abbrev pub is_number : List ℕ → Bool
is_number bytes = few (length bytes) && all_digits bytes

-- the digits as one whole number, over ten for each of them that stands behind the point
unfoldable pub quotient_of : List ℕ → List ℕ → Option Float
quotient_of whole places =
    let digits = whole ++ places in
    cond (is_number digits) (Some (of_count (value_of 0 digits) ⊘ of_count (10 ^ length places))) None

unfoldable pub read_decimal_of : List ℕ → Option Float
read_decimal_of word = quotient_of (before word) (behind word)

unfoldable pub read_whole_of : List ℕ → Option ℕ
read_whole_of word = cond (is_number word) (Some (value_of 0 word)) None
