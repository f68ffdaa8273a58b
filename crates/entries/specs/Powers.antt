-- The rule of exp's table: in row i, T is the `f64` nearest to 2 ^ (i / 32), and D the one nearest to
-- (2 ^ (i / 32) - T) / T. Definitions only. Assumes nothing.
use Rattle.std.specs.Prelude.{ℕ, ◌*◌, ◌^◌, Bool, true, false, ◌&&◌, ltb}
use Rattle.entries.specs.Fractions.{Fraction, one, plus, times, value_of, nearest}

-- r < 2 ^ (i / 32) and r > 2 ^ (i / 32), by the 32nd powers
abbrev pub less_than_power : ℕ → Fraction → Bool
less_than_power i (true, a, c) = true
less_than_power i (false, a, c) = ltb (a ^ 32) (2 ^ i * c ^ 32)

abbrev pub more_than_power : ℕ → Fraction → Bool
more_than_power i (true, a, c) = false
more_than_power i (false, a, c) = ltb (2 ^ i * c ^ 32) (a ^ 32)

abbrev pub power_nearest : ℕ → ℕ → Bool
power_nearest i t = nearest (less_than_power i) (more_than_power i) t

-- r < (2 ^ (i / 32) - T) / T says that T (1 + r) < 2 ^ (i / 32): T is above 0
abbrev pub grown : ℕ → Fraction → Fraction
grown t r = times (value_of t) (plus one r)

abbrev pub rest_nearest : ℕ → ℕ → ℕ → Bool
rest_nearest i t d = nearest (λ r. less_than_power i (grown t r)) (λ r. more_than_power i (grown t r)) d

abbrev pub power_row_holds : ℕ → ℕ × ℕ → Bool
power_row_holds i (t, d) = power_nearest i t && rest_nearest i t d
