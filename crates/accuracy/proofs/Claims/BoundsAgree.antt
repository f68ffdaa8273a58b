-- The bounds of specs/Accuracy.antt bound one number: a lower bound of e ^ x is at most any upper one. So `Answers`
-- is no empty claim: doubles that are further apart than it allows do not both meet it. Assumes nothing.
use Rattle.accuracy.proofs.Prelude.{◌≡◌, subst, Bool, true, false, ℕ, zero, suc, ◌+◌, ◌-◌, ◌*◌, ◌^◌, ◌≤◌, ◌<◌}
use Rattle.accuracy.proofs.Prelude.{arith}
use native.Mathlib.Nat.{le_trans, le_of_eq, le_of_suc-le-suc, lt_of_not-le, mul-pos, mul_comm, mul-le-mul}
use native.Mathlib.Nat.{mul-le-mul_left, mul-le-mul_right, le_of_mul-le-mul_left, pow-zero, pow-succ'}
use native.Mathlib.Nat.{pow-le-pow_left, le-add_right, mul-mul-mul_comm, sub-add_cancel, one-le-pow}
use Rattle.accuracy.specs.Accuracy.{ExpAtMost, ExpAtLeast}
use Rattle.accuracy.proofs.Euler.Means.{mul-pow}

-- ---- z ^ n z ≤ y ^ n z + n b z ^ n, where z = y + b
step : (y b n U W : ℕ) → U ≤ W → W * (y + b) ≤ U * (y + b) + n * b * W
    → (y + b) * W * (y + b) ≤ y * U * (y + b) + suc n * b * ((y + b) * W)
step y b n U W h k =
    let c : W * (y + b) * (y + b) ≤ (U * (y + b) + n * b * W) * (y + b) = mul-le-mul_right (y + b) k in
    let d : b * (y + b) * U ≤ b * (y + b) * W = mul-le-mul_left (b * (y + b)) h in
    flat y b n U W c d
  where
    flat : (y b n U W : ℕ) → W * (y + b) * (y + b) ≤ (U * (y + b) + n * b * W) * (y + b)
        → b * (y + b) * U ≤ b * (y + b) * W → (y + b) * W * (y + b) ≤ y * U * (y + b) + suc n * b * ((y + b) * W)
    flat y b n U W c d = omega arith

pub bernoulli : (y b n : ℕ) → (y + b) ^ n * (y + b) ≤ y ^ n * (y + b) + n * b * (y + b) ^ n
bernoulli y b zero = rw (pow-zero (y + b), pow-zero y) (flat y b)
  where
    flat : (y b : ℕ) → 1 * (y + b) ≤ 1 * (y + b) + 0 * b * 1
    flat y b = omega arith
bernoulli y b (suc n) = rw (pow-succ' (y + b) n, pow-succ' y n)
    (step y b n (y ^ n) ((y + b) ^ n) (pow-le-pow_left (le-add_right y b) n) (bernoulli y b n))

-- ---- the two bounds at one n: m = c n, d = m - a, y = d (m + a) = m m - a a
module _ (a c P Q R S n d : ℕ) (hc : 0 < c) (hn : 0 < n) (e : d + a ≡ c * n)
    (up : (c * n + a) ^ n * S ≤ R * (c * n) ^ n) (down : d ^ n * P ≤ Q * (c * n) ^ n) where
  abbrev m : ℕ
  m = c * n

  abbrev y : ℕ
  y = d * (m + a)

  square : y + a * a ≡ m * m
  square = subst (λ (z : ℕ). d * (z + a) + a * a ≡ z * z) e (flat d a)
    where
      flat : (d a : ℕ) → d * (d + a + a) + a * a ≡ (d + a) * (d + a)
      flat d a = omega arith

  z-pos : 0 < m * m
  z-pos = mul-pos (mul-pos hc hn) (mul-pos hc hn)

  both : y ^ n * (P * S) ≤ Q * R * (m * m) ^ n
  both = rw (mul-pow n d (m + a), mul-pow n m m) (le_trans (le_of_eq (mul-mul-mul_comm (d ^ n) ((m + a) ^ n) P S))
      (le_trans (mul-le-mul down up) (le_of_eq (t2 Q R (m ^ n)))))
    where
      t2 : (Q R w : ℕ) → Q * w * (R * w) ≡ Q * R * (w * w)
      t2 Q R w = omega arith

  -- m m P S ≤ m m Q R + n a a P S
  meet : m * m * (P * S) ≤ m * m * (Q * R) + n * (a * a) * (P * S)
  meet = le_of_mul-le-mul_left (vars ((m * m) ^ n) (y ^ n) (m * m) (P * S) (Q * R) (n * (a * a))
      (subst (λ (z : ℕ). z ^ n * z ≤ y ^ n * z + n * (a * a) * z ^ n) square (bernoulli y (a * a) n)) both)
      (one-le-pow n (m * m) z-pos)
    where
      vars : (Z Y z p q b : ℕ) → Z * z ≤ Y * z + b * Z → Y * p ≤ q * Z → Z * (z * p) ≤ Z * (z * q + b * p)
      vars Z Y z p q b h k =
          let c : Z * z * p ≤ (Y * z + b * Z) * p = mul-le-mul_right p h in
          let d : z * (Y * p) ≤ z * (q * Z) = mul-le-mul_left z k in
          flat Z Y z p q b c d
        where
          flat : (Z Y z p q b : ℕ) → Z * z * p ≤ (Y * z + b * Z) * p → z * (Y * p) ≤ z * (q * Z)
              → Z * (z * p) ≤ Z * (z * q + b * p)
          flat Z Y z p q b c d = omega arith

  -- one n of each kind gives n c c P S ≤ n c c Q R + a a P S
  shared : n * (c * c) * (P * S) ≤ n * (c * c) * (Q * R) + a * a * (P * S)
  shared = le_of_mul-le-mul_left (flat c n (P * S) (Q * R) (a * a) meet) hn
    where
      flat : (c n p q b : ℕ) → c * n * (c * n) * p ≤ c * n * (c * n) * q + n * b * p
          → n * (n * (c * c) * p) ≤ n * (n * (c * c) * q + b * p)
      flat c n p q b h = omega arith

-- an n that is large enough: more than a a P S, and at least a
last : (c a p q : ℕ) → 0 < c → (suc (a * a * p) + a) * (c * c) * p ≤ (suc (a * a * p) + a) * (c * c) * q + a * a * p
    → p ≤ q
last c a p q hc h = le_of_suc-le-suc
    (lt_of_not-le (λ (k : suc q ≤ p). never (suc (a * a * p) + a) (c * c) p q (a * a * p) (mul-pos hc hc)
    (more (a * a * p) a) k h))
  where
    more : (x a : ℕ) → x < suc x + a
    more x a = omega arith

    never : (n l p q b : ℕ) → 0 < l → b < n → suc q ≤ p → n * l * p ≤ n * l * q + b → ⊥
    never n l p q b hl hb k h =
        let c : n * l * suc q ≤ n * l * p = mul-le-mul_left (n * l) k in
        let d : n * 1 ≤ n * l = mul-le-mul_left n hl in
        flat n (n * l) (n * l * p) q b hb d c h
      where
        flat : (n N x q b : ℕ) → b < n → n * 1 ≤ N → N * suc q ≤ x → x ≤ N * q + b → ⊥
        flat n N x q b hb d c h = omega arith

enough : (c a x : ℕ) → 0 < c → a ≤ c * (suc x + a)
enough c a x h = let k : 1 * (suc x + a) ≤ c * (suc x + a) = mul-le-mul_right (suc x + a) h in le_trans (less x a) k
  where
    less : (x a : ℕ) → a ≤ 1 * (suc x + a)
    less x a = omega arith

some : (x a : ℕ) → 0 < suc x + a
some x a = omega arith

-- THE LAW: P / Q ≤ e ^ x and e ^ x ≤ R / S give P / Q ≤ R / S
pub bounds-agree : (s : Bool) (a c P Q R S : ℕ) → 0 < c → ExpAtLeast s a c P Q → ExpAtMost s a c R S → P * S ≤ Q * R
bounds-agree false a c P Q R S hc low high =
    let n = suc (a * a * (P * S)) + a in
    let r = enough c a (a * a * (P * S)) hc in
    let hn = some (a * a * (P * S)) a in
    last c a (P * S) (Q * R) hc (shared a c P Q R S n (c * n - a) hc hn (sub-add_cancel r) (high n hn r) (low n hn r))
bounds-agree true a c P Q R S hc low high =
    let n = suc (a * a * (P * S)) + a in
    let r = enough c a (a * a * (P * S)) hc in
    let hn = some (a * a * (P * S)) a in
    last c a (P * S) (Q * R) hc (subst (λ (z : ℕ). n * (c * c) * z ≤ n * (c * c) * (Q * R) + a * a * z) (mul_comm S P)
    (subst (λ (z : ℕ). n * (c * c) * (S * P) ≤ n * (c * c) * z + a * a * (S * P)) (mul_comm R Q)
    (shared a c S R Q P n (c * n - a) hc hn (sub-add_cancel r) (low n hn r) (high n hn r))))
