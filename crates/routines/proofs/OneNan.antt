-- The pattern of a float, where every NaN has one, and back. Assumes nothing.
use Rattle.std.proofs.Common.{◌≡◌, ℕ, ◌^◌, ◌<◌, not, T, sym, refl, ◌∙◌}
use lib.Ieee.{Float, nan, inf, fin, binary64, is_nan, fits, to_bits, of_bits}
use lib.Ieee.Bits.{of_bits-to_bits, to_bits-of_bits}
use Rattle.routines.specs.Bits.{nan_pattern, pattern_of}

pub number-pattern : (x : Float) → T (not (is_nan x)) → to_bits binary64 x ≡ pattern_of x
unfolding pattern_of is_nan
number-pattern nan h = absurd h
number-pattern (inf s) h = refl
number-pattern (fin s m e) h = refl

-- a double is read back from its pattern
pub from-pattern : (x : Float) → T (fits binary64 x) → of_bits binary64 (pattern_of x) ≡ x
unfolding pattern_of is_nan to_bits
from-pattern nan h = of_bits-to_bits binary64 nan h
from-pattern (inf s) h = of_bits-to_bits binary64 (inf s) h
from-pattern (fin s m e) h = of_bits-to_bits binary64 (fin s m e) h

-- 64 bits that are no NaN's, or the one pattern of a NaN, are those of the double that they say
pub one-nan : pattern_of (of_bits binary64 nan_pattern) ≡ nan_pattern
unfolding pattern_of of_bits is_nan
one-nan = refl

pub to-pattern : (n : ℕ) → n < 2 ^ 64 → T (not (is_nan (of_bits binary64 n))) → pattern_of (of_bits binary64 n) ≡ n
to-pattern n b h = sym (number-pattern (of_bits binary64 n) h) ∙ to_bits-of_bits binary64 n b h
