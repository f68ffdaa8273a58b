-- The size of a finite value, counted in units of its format's smallest value above zero: 2 ^ -1074 for an `f64`. Every
-- finite value of a format is a whole number of units: `has-units` in proofs/Values.antt.
-- And how near a rounded sum, or a running sum, is to the exact one, in units. Definitions only. Assumes nothing.
use Rattle.std.specs.Prelude.{ℕ, ◌+◌, ◌*◌, ◌/◌, ◌^◌, ◌≤◌, Bool, true, false, not, T, nat_lt, Float}
use Rattle.std.specs.Float.{nan, inf, fin, Format, binary64}
use Rattle.std.specs.Float.Ieee.{low, fits}
use Rattle.std.specs.Float.Ieee.Scale.{finite}
use Rattle.std.specs.Float.Ieee.Positive.{num, den}

-- the size in units, whatever the sign; 0 for a NaN and an infinity
unfoldable pub units_in : Format → Float → ℕ
units_in f x = num x * 2 ^ low f / den x

abbrev pub units_of : Float → ℕ
units_of x = units_in binary64 x

-- below zero: -0 is not
abbrev pub negative : Float → Bool
negative nan = false
negative (inf s) = s
negative (fin true m e) = nat_lt 0 m
negative (fin false m e) = false

-- a finite value of the format that is not below zero; -0 is one
pub record NonNegative (f : Format) (x : Float) : Type 0 where
  pub held : T (fits f x)
  pub known : T (finite x)
  pub sign : T (not (negative x))

-- s is `exact` units rounded once: up to 2 ^ -53 of s either way
pub record Within (exact : ℕ) (s : Float) : Type 0 where
  pub value : NonNegative binary64 s
  pub over : units_of s * 2 ^ 53 ≤ exact * 2 ^ 53 + units_of s
  pub under : exact * 2 ^ 53 ≤ units_of s * 2 ^ 53 + units_of s

-- g is n up to n / P either way
abbrev pub Off : ℕ → ℕ → ℕ → Type 0
Off P g n = (g * P ≤ n * P + n) × (n * P ≤ g * P + n)

-- a running sum s after k additions and the exact sum e: 2 ^ 53 |s - e| ≤ k s
pub record Near (k s e : ℕ) : Type 0 where
  pub over : s * 2 ^ 53 ≤ e * 2 ^ 53 + k * s
  pub under : e * 2 ^ 53 ≤ s * 2 ^ 53 + k * s
