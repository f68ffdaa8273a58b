-- Step 5: the bits of t, a whole number N from 2 ^ 52 below 2 ^ 53, are 1074 * 2 ^ 52 + N; so i = N % 32 and
-- m = N / 32 % 4096. Assumes nothing.
use Rattle.accuracy.proofs.Prelude.{◌≡◌, sym, ap, ◌∙◌, Bool, false, cond, ℕ, ◌+◌, ◌-◌, ◌*◌, ◌/◌, ◌%◌, ◌^◌, ◌≤◌}
use Rattle.accuracy.proofs.Prelude.{◌<◌, arith, pow_pos, pow-add, pow_mono}
use native.Mathlib.Nat.{le_trans, le_of_eq, le_antisymm, lt_of_lt_of_le, mul-le-mul_right, mul-lt-mul_of_pos_right}
use native.Mathlib.Nat.{mul-div_cancel, not-le_of_lt, lt_of_not-le}
use lib.Ieee.{Float, nan, inf, fin, binary64, to_bits, size, up, down}
use lib.Ieee.Digits.{size-lt, size-le}
use lib.Ieee.Fits.{down_pos}
use Rattle.accuracy.proofs.Rounding.Binary64.{L, Is}

size_is : (N : ℕ) → 2 ^ 52 ≤ N → N < 2 ^ 53 → size (N * 2 ^ 1074) ≡ 1127
size_is N a b = le_antisymm
    (size-le (N * 2 ^ 1074) 1127 (lt_of_lt_of_le (mul-lt-mul_of_pos_right b (pow_pos 1074))
    (le_of_eq (sym (pow-add 2 53 1074))))) (go (size (N * 2 ^ 1074)) (size-lt (N * 2 ^ 1074)))
  where
    go : (z : ℕ) → N * 2 ^ 1074 < 2 ^ z → 1127 ≤ z
    go z h = from z (λ (k : z ≤ 1126). not-le_of_lt h
        (le_trans (pow_mono k) (le_trans (le_of_eq (pow-add 2 52 1074)) (mul-le-mul_right (2 ^ 1074) a))))
      where
        from : (z : ℕ) → (z ≤ 1126 → ⊥) → 1127 ≤ z
        from z n = lt_of_not-le n

pub bits_are : (x : Float) (N : ℕ) → Is x false (N * L) → 2 ^ 52 ≤ N → N < 2 ^ 53
    → to_bits binary64 x ≡ 1074 * 2 ^ 52 + N
unfolding L to_bits
bits_are nan N v a b = absurd v
bits_are (inf s) N v a b = absurd v
bits_are (fin s m e) N v a b =
    let n = m * up e * 2 ^ 1074 / down e in
    let q : n ≡ N * 2 ^ 1074 = ap (λ (z : ℕ). z / down e) v.1 ∙ mul-div_cancel (N * 2 ^ 1074) (down_pos e) in
    ap (λ (z : Bool). cond z (2 ^ 63) 0 + (size n - 53) * 2 ^ 52 + n / 2 ^ (size n - 53)) v.0
    ∙ ap (λ (z : ℕ). 0 + (size z - 53) * 2 ^ 52 + z / 2 ^ (size z - 53)) q
    ∙ ap (λ (z : ℕ). 0 + (z - 53) * 2 ^ 52 + N * 2 ^ 1074 / 2 ^ (z - 53)) (size_is N a b)
    ∙ ap (λ (z : ℕ). 1074 * 2 ^ 52 + z) (mul-div_cancel N (pow_pos 1074))

pub row_number : (N : ℕ) → (1074 * 2 ^ 52 + N) % 32 ≡ N % 32
row_number N = omega arith

pub octave-number : (N : ℕ) → (1074 * 2 ^ 52 + N) / 32 % 4096 ≡ N / 32 % 4096
octave-number N = omega arith
