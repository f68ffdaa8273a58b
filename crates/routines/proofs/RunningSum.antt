-- The error of a running sum after k additions, each rounded once: 2 ^ 53 |s - e| ≤ k s, with s the rounded and e the
-- exact sum. For k up to 65535 that is below 2 ^ -37 of s.
-- Only natural numbers. Assumes nothing.
use Rattle.std.proofs.Common.{ℕ, suc, ◌+◌, ◌*◌, ◌^◌, ◌<◌, ◌≤◌, le_trans, mul-le-mul_right, mul-le-mul_left, arith}
use Rattle.routines.specs.Units.{Off, Near}

pub near-start : (s : ℕ) → Near 0 s s
near-start s = record { over = omega arith; under = omega arith }

-- ---- one more term
-- `omega` stops at numbers of more than 38 digits, so the steps below are small, and P stands for 2 ^ 53
module _ (P k s e x g : ℕ) (grown : k * s ≤ k * g) where
  step-over : s * P ≤ e * P + k * s → g * P ≤ (s + x) * P + g → g * P ≤ (e + x) * P + suc k * g
  step-over h o = omega arith

  step-under : e * P ≤ s * P + k * s → (s + x) * P ≤ g * P + g → (e + x) * P ≤ g * P + suc k * g
  step-under h o = omega arith

-- the term x, and g is the rounded sum, no less than s
pub near_step : (k s e x g : ℕ) → Near k s e → s ≤ g → Off (2 ^ 53) (s + x) g → Near (suc k) g (e + x)
near_step k s e x g h l o =
    let grown : k * s ≤ k * g = mul-le-mul_left k l in
    record {
      over = step-over (2 ^ 53) k s e x g grown h.over o.1;
      under = step-under (2 ^ 53) k s e x g grown h.under o.0;
    }

-- ---- against a bound a, up to 2 ^ -36
pub near_within : (k s e a : ℕ) → k ≤ 65535 → Near k s e → s ≤ a → e * 2 ^ 36 ≤ a * (2 ^ 36 + 1)
near_within k s e a K h l =
    let m : k * s ≤ 65535 * s = mul-le-mul_right s K in
    within (k * s) h.under m
  where
    within : (w : ℕ) → e * 2 ^ 53 ≤ s * 2 ^ 53 + w → w ≤ 65535 * s → e * 2 ^ 36 ≤ a * (2 ^ 36 + 1)
    within w h m = omega arith

pub near-beyond : (k s e a : ℕ) → k ≤ 65535 → Near k s e → a < s → a * 2 ^ 36 < e * (2 ^ 36 + 1)
near-beyond k s e a K h l =
    let m : k * s ≤ 65535 * s = mul-le-mul_right s K in
    beyond (k * s) h.over m
  where
    beyond : (w : ℕ) → s * 2 ^ 53 ≤ e * 2 ^ 53 + w → w ≤ 65535 * s → a * 2 ^ 36 < e * (2 ^ 36 + 1)
    beyond w h m = omega arith

-- ---- no overflow: each term is at most 2 * L
near-double : (k s e : ℕ) → k ≤ 65535 → Near k s e → s ≤ 2 * e
near-double k s e K h = double (k * s) h.over (mul-le-mul_right s K)
  where
    double : (w : ℕ) → s * 2 ^ 53 ≤ e * 2 ^ 53 + w → w ≤ 65535 * s → s ≤ 2 * e
    double w h m = omega arith

room : (s e x L : ℕ) → s ≤ 2 * e → e ≤ 65535 * (2 * L) → x ≤ 2 * L → 0 < L → (s + x) * 2 < 2 ^ 20 * L
room s e x L d h l P = omega arith

-- k + 1 terms are in e
pub near-room : (k s e x L : ℕ) → suc k ≤ 65535 → Near k s e → 0 < L → e ≤ suc k * (2 * L) → x ≤ 2 * L
    → (s + x) * 2 < 2 ^ 20 * L
near-room k s e x L K h P b c =
    room s e x L (near-double k s e (less k K) h) (le_trans b (mul-le-mul_right (2 * L) K)) c P
  where
    less : (k : ℕ) → suc k ≤ 65535 → k ≤ 65535
    less k h = omega arith

pub more : (e n x L : ℕ) → e ≤ n * (2 * L) → x ≤ 2 * L → e + x ≤ suc n * (2 * L)
more e n x L h k = omega arith
