-- Recovered bins: n over the scale, rounded with halves away from zero. Definitions only. Assumes nothing.
use Rattle.std.specs.Prelude.{ℕ, ◌&&◌, cond, Float}
use Rattle.std.specs.Float.Ieee.{le, to_unsigned}
use Rattle.std.specs.Float.Ieee.Scale.{finite}
use Rattle.routines.specs.Constants.{one}
use Rattle.routines.specs.Ops.{◌⊘◌, of_count}
use Rattle.routines.specs.Whole.{round_of}

unfoldable pub used_scale_of : Float → Float
used_scale_of scale = cond (finite scale && le one scale) scale one

unfoldable pub rounded_quotient_of : ℕ → Float → ℕ
rounded_quotient_of n divisor = to_unsigned 32 (round_of (of_count n ⊘ divisor))
