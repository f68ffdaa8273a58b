-- A float's pattern. Definitions only. Assumes nothing.
use Rattle.std.specs.Prelude.{ℕ, cond, is_nan, to_bits, Float}
use Rattle.std.specs.Float.{binary64}

-- every NaN has the same
abbrev pub nan_pattern : ℕ
nan_pattern = 0x7ff8000000000000

unfoldable pub pattern_of : Float → ℕ
pattern_of x = cond (is_nan x) nan_pattern (to_bits binary64 x)
