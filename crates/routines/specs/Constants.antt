-- Small numbers that the definitions use. Definitions only. Assumes nothing.
use Rattle.std.specs.Prelude.{from_bits, Float}
use Rattle.std.specs.Float.{binary64}
use Rattle.std.specs.Float.Ieee.{neg}

-- 0.0
abbrev pub zero : Float
zero = from_bits binary64 0

-- 0.5
abbrev pub half : Float
half = from_bits binary64 0x3fe0000000000000

-- 1.0
abbrev pub one : Float
one = from_bits binary64 0x3ff0000000000000

-- 2.0
abbrev pub two : Float
two = from_bits binary64 0x4000000000000000

-- 3.0
abbrev pub three : Float
three = from_bits binary64 0x4008000000000000

-- 4.0
abbrev pub four : Float
four = from_bits binary64 0x4010000000000000

-- -1.0
abbrev pub minus_one : Float
minus_one = neg one
