-- `routines::ln::core` meets its contract. Assumes nothing.
use Rattle.std.proofs.Common.{ℕ, ◌+◌, ◌*◌, ◌/◌, ◌%◌, ◌^◌, ◌≤◌, arith}
use Rattle.routines.proofs.Patterns.{no_nan}
use Rattle.routines.proofs.ln.core.Goals as goal

exponent : (q o : ℕ) → o ≤ 290851611872329728
    → (4841369599423283200 + (q % 9223372036854775808 + o) / 4503599627370496) % 2 ^ 63 ≤ 2047 * 2 ^ 52
exponent q o h = omega arith

digits : (q : ℕ) → (q % 4503599627370496 + 4604561183079399424) % 2 ^ 63 ≤ 2047 * 2 ^ 52
digits q = omega arith

pub float_from_bits-k : goal.float_from_bits-k
float_from_bits-k c = no_nan _ (exponent _ _ c.requires.fact_2)

pub float_from_bits-z : goal.float_from_bits-z
float_from_bits-z c = no_nan _ (digits _)
