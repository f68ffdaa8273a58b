-- Which patterns are a NaN's. Assumes nothing.
use Prim.Native.Nat.{ℕ, ◌*◌, ◌%◌, ◌^◌, ◌<◌}
use mathlib.Core.Path.{◌≡◌, refl, sym, ◌∙◌}
use mathlib.Core.Bool.{true, false≢true}
use borrow.Author.Tests.{lt-ltb}
use lib.Ieee.{Float, nan, inf, fin, binary64, is_nan, of_bits}
use lib.Ieee.Bits.{nan_bits_is, nan_bits_above}

nan-only : (x : Float) → is_nan x ≡ true → nan ≡ x
unfolding is_nan
nan-only nan h = refl
nan-only (inf s) h = absurd (false≢true h)
nan-only (fin s m e) h = absurd (false≢true h)

pub above-is-nan : (n : ℕ) → 2047 * 2 ^ 52 < n % 2 ^ 63 → nan ≡ of_bits binary64 n
above-is-nan n h = nan-only (of_bits binary64 n) (sym (nan_bits_is binary64 n) ∙ nan_bits_above binary64 n ∙ lt-ltb (2047 * 2 ^ 52) (n % 2 ^ 63) h)
