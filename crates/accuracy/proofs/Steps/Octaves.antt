-- An octave is 32 Λ: 2 ^ N is e ^ (N octaves) up to one part in 2 ^ 80, for N up to 2000; and from 1099 octaves on
-- e ^ -x is at most 2 ^ -1099, up to that part. Assumes nothing.
use Rattle.accuracy.proofs.Prelude.{◌≡◌, refl, sym, ap, ◌∙◌, subst, true, ℕ, suc, ◌+◌, ◌-◌, ◌*◌, ◌^◌, ◌≤◌, ◌<◌}
use Rattle.accuracy.proofs.Prelude.{arith, lit≤, lit<, pow-add}
use native.Mathlib.Nat.{le_trans, le_of_eq, mul-le-mul_right, mul-le-mul_left, mul_comm, mul_assoc}
use native.Mathlib.Nat.{le_of_mul-le-mul_left, pow-le-pow_left, add-sub_of_le, mul_left_comm, one-le-pow}
use native.Mathlib.Nat.{sub-add_cancel}
use Rattle.accuracy.proofs.Euler.Means.{mul-pow}
use Rattle.accuracy.proofs.Euler.Weaker.{Near, below_more}
use Rattle.accuracy.proofs.Euler.AnySign.{Nearly, exp-weaken, nearly-plus}
use Rattle.accuracy.proofs.Rounding.Binary64.{L, L-pos}
use Rattle.accuracy.proofs.Steps.TableNear.{A, C, good, two-near}
use Rattle.accuracy.specs.Accuracy.{ExpAtMost}
use Rattle.accuracy.proofs.Euler.EveryN.{lowered}
use Rattle.accuracy.proofs.Euler.Powers.{near-stretch, exp-pow}

-- ---- (1 + 2^-92)^N for N up to 2000
many : suc good ^ 2000 * 2 ^ 80 ≤ (2 ^ 80 + 1) * good ^ 2000
many = lit≤ tt

few : (N : ℕ) → N ≤ 2000 → suc good ^ N * 2 ^ 80 ≤ (2 ^ 80 + 1) * good ^ N
few N h = go N (2000 - N) (sym (add-sub_of_le h))
  where
    go : (N j : ℕ) → 2000 ≡ N + j → suc good ^ N * 2 ^ 80 ≤ (2 ^ 80 + 1) * good ^ N
    go N j q = vars (suc good ^ N) (good ^ N) (suc good ^ j) (good ^ j) (2 ^ 80) (2 ^ 80 + 1)
        (one-le-pow j (suc good) (lit< tt)) (pow-le-pow_left (lit≤ tt) j)
        (subst (λ (x : ℕ). x * 2 ^ 80 ≤ (2 ^ 80 + 1) * (good ^ N * good ^ j)) (ap (λ (x : ℕ). suc good ^ x) q
        ∙ pow-add (suc good) N j) (subst (λ (x : ℕ). suc good ^ 2000 * 2 ^ 80 ≤ (2 ^ 80 + 1) * x)
        (ap (λ (x : ℕ). good ^ x) q ∙ pow-add good N j) many))
      where
        vars : (a b c d x y : ℕ) → 0 < c → d ≤ c → a * c * x ≤ y * (b * d) → a * x ≤ y * b
        vars a b c d x y hc h k = le_of_mul-le-mul_left
            (le_trans (le_of_eq (e1 a c x))
            (le_trans k (le_trans (le_of_eq (e2 y b d)) (mul-le-mul_right (y * b) h)))) hc
          where
            e1 : (a c x : ℕ) → c * (a * x) ≡ a * c * x
            e1 a c x = omega arith

            e2 : (y b d : ℕ) → y * (b * d) ≡ d * (y * b)
            e2 y b d = omega arith

-- z units make the step's parts of L
pub stretch_l : C * 2 ^ 978 ≡ L
unfolding L
stretch_l = refl

-- 32 steps, in units
unfoldable pub octave : ℕ
octave = 32 * A * 2 ^ 978

two-L : Nearly octave 0 L 2 1 good
unfolding octave
two-L = nearly-plus (32 * A * 2 ^ 978) L 2 1 good L-pos (subst (λ (x : ℕ). Near (32 * A * 2 ^ 978) x 2 1 good)
    stretch_l (near-stretch (32 * A) C 2 1 good (2 ^ 978) two-near))

-- 2 ^ N is e ^ (N octaves) up to 2 ^ -80, and so is 1 / 2 ^ N
pub two_up : (N : ℕ) → N ≤ 2000 → Nearly (N * octave) (N * 0) L (2 ^ N) 1 (2 ^ 80)
two_up N h = record {
  above = exp-weaken (N * octave) (N * 0) L ((2 * suc good) ^ N) ((1 * good) ^ N) (2 ^ N * suc (2 ^ 80)) (1 * 2 ^ 80)
      (one-le-pow N (2 * suc good) (lit< tt)) (one-le-pow N (1 * good) (lit< tt)) up
      (exp-pow octave 0 L (2 * suc good) (1 * good) N L-pos two-L.above);
  below = exp-weaken (N * 0) (N * octave) L ((1 * suc good) ^ N) ((2 * good) ^ N) (1 * suc (2 ^ 80)) (2 ^ N * 2 ^ 80)
      (one-le-pow N (1 * suc good) (lit< tt)) (one-le-pow N (2 * good) (lit< tt)) down
      (exp-pow 0 octave L (1 * suc good) (2 * good) N L-pos two-L.below);
}
  where
    up : (2 * suc good) ^ N * (1 * 2 ^ 80) ≤ 2 ^ N * suc (2 ^ 80) * (1 * good) ^ N
    up = le_trans (le_of_eq (ap (λ (x : ℕ). x * (1 * 2 ^ 80)) (mul-pow N 2 (suc good)) ∙ t1 (2 ^ N) (suc good ^ N)
        (2 ^ 80))) (le_trans (mul-le-mul_left (2 ^ N) (few N h))
        (le_of_eq (sym (mul_assoc (2 ^ N) (2 ^ 80 + 1) (good ^ N)))))
      where
        t1 : (a b x : ℕ) → a * b * (1 * x) ≡ a * (b * x)
        t1 a b x = omega arith

    down : (1 * suc good) ^ N * (2 ^ N * 2 ^ 80) ≤ 1 * suc (2 ^ 80) * (2 * good) ^ N
    down = le_trans (le_of_eq (mul_left_comm (suc good ^ N) (2 ^ N) (2 ^ 80)))
        (le_trans (mul-le-mul_left (2 ^ N) (few N h))
        (le_of_eq (mul_left_comm (2 ^ N) (2 ^ 80 + 1) (good ^ N) ∙ ap (λ (x : ℕ). (2 ^ 80 + 1) * x)
        (sym (mul-pow N 2 good)) ∙ t3 (2 ^ 80 + 1) ((2 * good) ^ N))))
      where
        t3 : (x b : ℕ) → x * b ≡ 1 * x * b
        t3 x b = omega arith

-- ---- far out: 1099 octaves and more
pub far-out : (X : ℕ) → 1099 * octave ≤ X → ExpAtMost true X L (1 * suc (2 ^ 80)) (2 ^ 1099 * 2 ^ 80)
far-out X h n hn r = le_trans (le_of_eq (mul_comm ((L * n - X) ^ n) (2 ^ 1099 * 2 ^ 80)))
    (lowered X L (2 ^ 1099 * 2 ^ 80) (1 * suc (2 ^ 80)) n (L * n - X) L-pos hn (sub-add_cancel r)
    (below_more (1099 * octave - 1099 * 0) X L (2 ^ 1099 * 2 ^ 80) (1 * suc (2 ^ 80))
    (le_trans (le_of_eq (none octave)) h) ((two_up 1099 (lit≤ tt)).below.under (nothing octave))))
  where
    none : (o : ℕ) → 1099 * o - 1099 * 0 ≡ 1099 * o
    none o = omega arith

    nothing : (o : ℕ) → 1099 * 0 ≤ 1099 * o
    nothing o = omega arith
