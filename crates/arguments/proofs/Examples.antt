-- Words and what they are read as, computed. Assumes nothing.
use Prim.Native.Nat.{ℕ}
use mathlib.Core.Path.{refl}
use mathlib.Core.List.{[], ◌∷◌}
use lib.Ieee.{Float, binary64, of_bits, of_int, div}
use Rattle.listing.specs.Listing.{ascii}
use Rattle.arguments.specs.Numbers.{before, behind, all_digits, quotient_of, read_decimal_of, read_whole_of}
use Rattle.arguments.specs.Claims.{Rows}
use Rattle.std.specs.Prelude.{Option, None, Some}

abbrev bits : ℕ → Option Float
bits b = Some (of_bits binary64 b)

pub decimals : Rows read_decimal_of (
    (ascii "20", bits 0x4034000000000000) ∷
    (ascii "1.10", bits 0x3FF199999999999A) ∷
    (ascii "0.1", bits 0x3FB999999999999A) ∷
    (ascii ".5", bits 0x3FE0000000000000) ∷
    (ascii "5.", bits 0x4014000000000000) ∷
    (ascii "0", bits 0) ∷
    -- fifteen digits, and sixteen
    (ascii "123456789012345", bits 0x42DC12218377DE40) ∷
    (ascii ".000000000000001", bits 0x3CD203AF9EE75616) ∷
    (ascii "1234567890123456", None) ∷
    (ascii "0.000000000000001", None) ∷
    -- no digit, a second point, a sign, an exponent, a blank
    (ascii "", None) ∷
    (ascii ".", None) ∷
    (ascii "1.2.3", None) ∷
    (ascii "-1", None) ∷
    (ascii "1e5", None) ∷
    (ascii " 1", None) ∷ [])
unfolding before behind all_digits quotient_of read_decimal_of of_bits of_int div
decimals = refl

pub wholes : Rows read_whole_of (
    (ascii "20", Some 20) ∷
    (ascii "007", Some 7) ∷
    (ascii "999999999999999", Some 999999999999999) ∷
    (ascii "1000000000000000", None) ∷
    (ascii "", None) ∷
    (ascii "5.", None) ∷
    (ascii "+1", None) ∷ [])
unfolding all_digits read_whole_of
wholes = refl
