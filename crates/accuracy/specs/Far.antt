-- The numbers of what is said of exp below -40. Definitions only. Assumes nothing.
use Rattle.std.specs.Prelude.{Float}
use Rattle.std.specs.Float.{binary64}
use Rattle.std.specs.Float.Ieee.{of_bits}

-- -40, and 2 ^ -54
abbrev pub MINUS40 : Float
MINUS40 = of_bits binary64 0xc044000000000000

abbrev pub TINY : Float
TINY = of_bits binary64 0x3c90000000000000
