-- Rust's `f64::round` and `f64::floor`, on a binary64 value: `nan`, `inf s`, or `fin s m e`, which is m * 2 ^ e,
-- negative where s is true. Its size is the fraction m * up e / down e.
-- `Ieee.round binary64 s n 1` is the whole number n with the sign s as a binary64 value (for n = 0 a zero with that
-- sign). It loses nothing here: `round-exactly` and `floor-exactly` in proofs/Exact.antt.
-- Definitions only. Assumes nothing.
use Rattle.std.specs.Prelude.{ℕ, ◌+◌, ◌-◌, ◌*◌, ◌/◌, Bool, true, false, Float}
use Rattle.std.specs.Float.Ieee as Ieee
use Rattle.std.specs.Float.{nan, inf, fin, binary64}
use Rattle.std.specs.Float.Ieee.{up, down}

-- a / d to the nearest whole number, a half up: the whole part of a / d + 1 / 2
unfoldable pub half_up : ℕ → ℕ → ℕ
half_up a d = (2 * a + d) / (2 * d)

-- a / d up to a whole number
unfoldable pub ceiling : ℕ → ℕ → ℕ
ceiling a d = (a + (d - 1)) / d

-- the size to the nearest whole number, a half away from zero; the sign stays
unfoldable pub round_of : Float → Float
unfolding half_up
round_of nan = nan
round_of (inf s) = inf s
round_of (fin s m e) = Ieee.round binary64 s (half_up (m * up e) (down e)) 1

-- the whole number that `floor` takes for the size a / d: without its fraction, and up for a negative number
abbrev pub downward : Bool → ℕ → ℕ → ℕ
downward false a d = a / d
downward true a d = ceiling a d

unfoldable pub floor_of : Float → Float
unfolding ceiling
floor_of nan = nan
floor_of (inf s) = inf s
floor_of (fin s m e) = Ieee.round binary64 s (downward s (m * up e) (down e)) 1
