-- Bounds of e ^ t where t is a z / (c z) in place of a / c, of e ^ (N t) by powers, and of e ^ t for a small t. Assumes
-- nothing.
use Rattle.accuracy.proofs.Prelude.{◌≡◌, sym, ap, ◌∙◌, subst, ℕ, zero, suc, ◌+◌, ◌-◌, ◌*◌, ◌^◌, ◌≤◌, ◌<◌, arith}
use native.Mathlib.Nat.{le_refl, le_trans, le_of_eq, mul-le-mul_right, mul-le-mul, mul_comm, mul_assoc, pow-zero}
use native.Mathlib.Nat.{pow-succ', pow-le-pow_left, add-zero, le-add_right, mul_right_comm}
use Rattle.accuracy.proofs.Euler.Bounds.{Above, Below}
use Rattle.accuracy.proofs.Euler.Means.{mul-pow}
use Rattle.accuracy.proofs.Euler.PartialSums.{part, scale, over, scale-pos, above-series}
use Rattle.accuracy.proofs.Euler.Weaker.{Near, above-weaken}
use Rattle.accuracy.proofs.Euler.AnySign.{Exp, exp-mul, exp-shift}

-- ---- both numbers of the fraction times z
stretch : (n a c z : ℕ) → (c * z * n + a * z) ^ n ≡ (c * n + a) ^ n * z ^ n
stretch n a c z = ap (λ (x : ℕ). x ^ n) (flat n a c z) ∙ mul-pow n (c * n + a) z
  where
    flat : (n a c z : ℕ) → c * z * n + a * z ≡ (c * n + a) * z
    flat n a c z = omega arith

stretch' : (n c z : ℕ) → (c * z * n) ^ n ≡ (c * n) ^ n * z ^ n
stretch' n c z = ap (λ (x : ℕ). x ^ n) (flat n c z) ∙ mul-pow n (c * n) z
  where
    flat : (n c z : ℕ) → c * z * n ≡ c * n * z
    flat n c z = omega arith

above-stretch : (a c P Q z : ℕ) → Above a c P Q → Above (a * z) (c * z) P Q
above-stretch a c P Q z h n hn = rw (stretch n a c z, stretch' n c z)
    (le_trans (le_of_eq (mul_right_comm ((c * n + a) ^ n) (z ^ n) Q))
    (le_trans (mul-le-mul_right (z ^ n) (h n hn)) (le_of_eq (mul_assoc P ((c * n) ^ n) (z ^ n)))))

pub below-stretch : (a c P Q z : ℕ) → Below a c P Q → Below (a * z) (c * z) P Q
below-stretch a c P Q z (n, hn, h) = (
  n,
  hn,
  rw (stretch n a c z, stretch' n c z) (le_trans (le_of_eq (sym (mul_assoc P ((c * n) ^ n) (z ^ n))))
      (le_trans (mul-le-mul_right (z ^ n) h) (le_of_eq (mul_assoc Q ((c * n + a) ^ n) (z ^ n))))),
)

pub near-stretch : (a c W B E z : ℕ) → Near a c W B E → Near (a * z) (c * z) W B E
near-stretch a c W B E z h = record {
  above = above-stretch a c (W * suc E) (B * E) z h.above;
  below = below-stretch a c (W * E) (B * suc E) z h.below;
}

-- ---- powers
one-exp : (c : ℕ) → 0 < c → Exp 0 0 c 1 1
one-exp c hc = record { over = λ (k : 0 ≤ 0). one; under = λ (k : 0 ≤ 0). (1, le_refl 1, flat (c * 1)) }
  where
    flat : (x : ℕ) → 1 * x ^ 1 ≤ 1 * (x + 0) ^ 1
    flat x = le_of_eq (ap (λ (y : ℕ). 1 * y ^ 1) (sym (add-zero x)))

    one : Above 0 c 1 1
    one n hn = le_of_eq (ap (λ (y : ℕ). y ^ n * 1) (add-zero (c * n)) ∙ mul_comm ((c * n) ^ n) 1)

pub exp-pow : (p m c P Q N : ℕ) → 0 < c → Exp p m c P Q → Exp (N * p) (N * m) c (P ^ N) (Q ^ N)
exp-pow p m c P Q zero hc h = subst (λ (x : ℕ). Exp (0 * p) (0 * m) c x (Q ^ 0)) (sym (pow-zero P))
    (subst (λ (x : ℕ). Exp (0 * p) (0 * m) c 1 x) (sym (pow-zero Q))
    (exp-shift 0 0 (0 * p) (0 * m) c 1 1 (flat p m) (one-exp c hc)))
  where
    flat : (p m : ℕ) → 0 + 0 * m ≡ 0 * p + 0
    flat p m = omega arith
exp-pow p m c P Q (suc N) hc h =
    subst (λ (x : ℕ). Exp (suc N * p) (suc N * m) c x (Q ^ suc N)) (sym (pow-succ' P N))
    (subst (λ (x : ℕ). Exp (suc N * p) (suc N * m) c (P * P ^ N) x) (sym (pow-succ' Q N))
    (exp-shift (p + N * p) (m + N * m) (suc N * p) (suc N * m) c (P * P ^ N) (Q * Q ^ N) (flat p m N)
    (exp-mul p m (N * p) (N * m) c P Q (P ^ N) (Q ^ N) hc h (exp-pow p m c P Q N hc h))))
  where
    flat : (p m N : ℕ) → p + N * p + suc N * m ≡ suc N * p + (m + N * m)
    flat p m N = omega arith

-- ---- e ^ d for a small d
over-0 : (a c : ℕ) → (over 0 a c ≡ c + 2 * a) × (scale 1 c ≡ c)
unfolding over part scale
over-0 a c = (
  ap (λ (z : ℕ). 1 * (c * 1) + z + z) (pow-succ' a 0 ∙ ap (λ (z : ℕ). a * z) (pow-zero a)) ∙ flat a c,
  one c,
)
  where
    flat : (a c : ℕ) → 1 * (c * 1) + a * 1 + a * 1 ≡ c + 2 * a
    flat a c = omega arith

    one : (c : ℕ) → 1 * (c * 1) ≡ c
    one c = omega arith

pub exp-small : (p m c z : ℕ) → 0 < c → 2 * z ≤ c → p ≤ m + z → Exp p m c (c + 2 * z) c
exp-small p m c z hc h k =
    record { over = λ (l : m ≤ p). up (p - m) (gap l); under = λ (l : p ≤ m). (1, le_refl 1, down (m - p)) }
  where
    gap : m ≤ p → p - m ≤ z
    gap l = omega arith

    up : (a : ℕ) → a ≤ z → Above a c (c + 2 * z) c
    up a l = above-weaken a c (over 0 a c) (scale 1 c) (c + 2 * z) c (scale-pos 1 c hc)
        (subst (λ (x : ℕ). x * c ≤ (c + 2 * z) * scale 1 c) (sym (over-0 a c).0)
        (subst (λ (x : ℕ). (c + 2 * a) * c ≤ (c + 2 * z) * x) (sym (over-0 a c).1)
        (mul-le-mul_right c (wide a z c l))))
        (above-series 0 a c (range a l))
      where
        wide : (a z c : ℕ) → a ≤ z → c + 2 * a ≤ c + 2 * z
        wide a z c l = omega arith

        range : (a : ℕ) → a ≤ z → 2 * a ≤ 1 * c
        range a l = omega arith

    down : (a : ℕ) → c * (c * 1) ^ 1 ≤ (c + 2 * z) * (c * 1 + a) ^ 1
    down a = mul-le-mul (more c z) (pow-le-pow_left (le-add_right (c * 1) a) 1)
      where
        more : (c z : ℕ) → c ≤ c + 2 * z
        more c z = omega arith
