-- A number n that is rounded to g, by at most half a place of n, reaches 2 ^ 52 of those places if g does.
-- Assumes nothing.
use Rattle.accuracy.proofs.Prelude.{◌≡◌, sym, subst, Bool, true, false, not, ℕ, ◌+◌, ◌-◌, ◌*◌, ◌^◌, ◌≤◌, ◌<◌}
use Rattle.accuracy.proofs.Prelude.{arith, T, leb, leb→le, nleb→lt, pow-add}
use native.Mathlib.Nat.{le_trans, le_of_eq}
use lib.Ieee.{size}
use lib.Ieee.Digits.{size_reaches}
use Rattle.routines.proofs.Rounding.{Half}

pub reaches : (n g : ℕ) → Half g n (2 ^ (size n - 53)) → 2 ^ 52 * 2 ^ (size n - 53) ≤ g → 2 ^ 52 * 2 ^ (size n - 53) ≤ n
reaches n g h k = go (leb (size n) 52) (leb→le (size n) 52) (nleb→lt (size n) 52)
  where
    none : (z : ℕ) → z ≤ 52 → z - 53 ≡ 0
    none z h = omega arith

    whole : (g n : ℕ) → g * 2 ≤ n * 2 + 1 → g ≤ n
    whole g n h = omega arith

    full : (z : ℕ) → 52 < z → 52 + (z - 53) < z
    full z h = omega arith

    go : (b : Bool) → (T b → size n ≤ 52) → (T (not b) → 52 < size n) → 2 ^ 52 * 2 ^ (size n - 53) ≤ n
    go true u w = le_trans k (whole g n (subst (λ (z : ℕ). Half g n (2 ^ z)) (none (size n) (u tt)) h).0)
    go false u w =
        le_trans (le_of_eq (sym (pow-add 2 52 (size n - 53))))
        (size_reaches n (52 + (size n - 53)) (full (size n) (w tt)))
