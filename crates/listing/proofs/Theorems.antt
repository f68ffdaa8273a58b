-- THE LISTING, to be read beside document 01. Assumes nothing.
use Prim.Native.Nat.{ℕ, ◌≤◌}
use mathlib.Core.Path.{◌≡◌, refl, sym, ap}
use mathlib.Core.List.{List, [], ◌∷◌}
use lib.ListN.{get_or}
use Rattle.meaning.specs.Reply.{Reply, refuse, broken, give}
use Rattle.histogram.specs.Number.{take_byte_of}
use Rattle.histogram.specs.File.{most_bins, range_of, next_of, step_of, steps_of, ends_of, read_of}
use Rattle.histogram.proofs.Theorems.{never-refused}
use Rattle.listing.specs.Decimal.{digits_of, decimal_of, value_of, Digits}
use Rattle.listing.specs.Listing.{ascii, line_of, row_of, rows_of, listing_of, refusal_of, listed_of, list_of}
use Rattle.listing.proofs.Values as values
use Rattle.listing.proofs.Tells as tells

-- ---- document 01's example, byte for byte
pub example : list_of (0x01 ∷ 0x03 ∷ 0xAC ∷ 0x02 ∷ 0x00 ∷ 0x05 ∷ []) ≡ ascii "bins 3\n1 300\n2 0\n3 5\n"
unfolding most_bins take_byte_of range_of next_of step_of steps_of ends_of read_of digits_of decimal_of line_of row_of rows_of listing_of
example = refl

-- `80 00` for zero
pub refused-example : list_of (0x01 ∷ 0x02 ∷ 0x05 ∷ 0x80 ∷ 0x00 ∷ []) ≡ ascii "refused 3 at 3\n"
unfolding most_bins take_byte_of range_of next_of step_of steps_of ends_of read_of digits_of decimal_of line_of refusal_of
refused-example = refl

-- ---- a number's digits are digits, and reading them gives the number back
pub are-digits : (n : ℕ) → Digits (decimal_of n)
are-digits = values.are-digits

pub value-back : (n : ℕ) → value_of 0 (decimal_of n) ≡ n
value-back = values.value-back

-- no zero leads, but that of 0 itself
pub no-zero-leads : (n : ℕ) → 1 ≤ n → 49 ≤ get_or (decimal_of n) 0 0
no-zero-leads = values.no-zero-leads

pub zero-alone : decimal_of 0 ≡ ascii "0"
unfolding decimal_of digits_of
zero-alone = refl

-- ---- a listing tells what was read: the bins, or the place
pub listing-tells : (file other : List ℕ) → list_of file ≡ list_of other → read_of file ≡ read_of other
listing-tells file other e = told (read_of file) (read_of other) refl refl e
  where
    told : (x y : Reply (List ℕ)) → read_of file ≡ x → read_of other ≡ y → listed_of x ≡ listed_of y → x ≡ y
    told (refuse n) y p q h = absurd (never-refused file n p)
    told (broken place) (refuse n) p q h = absurd (never-refused other n q)
    told (broken place) (broken behind) p q h = ap broken (tells.place-tells place behind h)
    told (broken place) (give ys) p q h = absurd (tells.no-bins ys place (sym h))
    told (give xs) (refuse n) p q h = absurd (never-refused other n q)
    told (give xs) (broken place) p q h = absurd (tells.no-bins xs place h)
    told (give xs) (give ys) p q h = ap give (tells.bins-tell xs ys h)
