-- The bounds of specs/Accuracy.antt leave no gap: for every E there is a P / Q that is at least e ^ x, with
-- P / Q * E / (E + 1) ≤ e ^ x. With BoundsAgree they determine one number, which is e ^ x. P / Q is (1 - x / n) ^ -n
-- for a large n. Assumes nothing.
use Rattle.accuracy.proofs.Prelude.{◌≡◌, sym, ap, subst, Bool, true, false, ℕ, suc, ◌+◌, ◌-◌, ◌*◌, ◌^◌, ◌≤◌, ◌<◌}
use Rattle.accuracy.proofs.Prelude.{arith}
use native.Mathlib.Nat.{le_trans, le_of_eq, le_of_lt, one-mul, mul_comm, mul_assoc, mul-pos, mul-le-mul}
use native.Mathlib.Nat.{mul-le-mul_left, mul-le-mul_right, le_of_mul-le-mul_left, sub-add_cancel, one-le-pow}
use Rattle.accuracy.specs.Accuracy.{ExpAtMost, ExpAtLeast}
use Rattle.accuracy.proofs.Euler.Means.{mul-pow}
use Rattle.accuracy.proofs.Euler.EveryN.{meet}
use Rattle.accuracy.proofs.Claims.BoundsAgree.{bernoulli}

through : (A X U Y D E : ℕ) → 0 < A → A * X ≤ U * Y → U * U * E ≤ A * D * suc E → X * (U * E) ≤ D * suc E * Y
through A X U Y D E z h k =
    le_of_mul-le-mul_left
    (le_trans (le_of_eq (e1 A X U E))
    (le_trans (mul-le-mul_right (U * E) h)
    (le_trans (le_of_eq (e2 U Y E)) (le_trans (mul-le-mul_right Y k) (le_of_eq (e3 A D E Y)))))) z
  where
    e1 : (A X U E : ℕ) → A * (X * (U * E)) ≡ A * X * (U * E)
    e1 A X U E = omega arith

    e2 : (U Y E : ℕ) → U * Y * (U * E) ≡ U * U * E * Y
    e2 U Y E = omega arith

    e3 : (A D E Y : ℕ) → A * D * suc E * Y ≡ A * (D * suc E * Y)
    e3 A D E Y = omega arith

-- ---- at one large n, with d = c n - a
module _ (a c E n d : ℕ) (hc : 0 < c) (many : a * a * suc E ≤ n) (above : a < n) (e : d + a ≡ c * n) where
  abbrev m : ℕ
  m = c * n

  n_pos : 0 < n
  n_pos = flat a n above
    where
      flat : (a n : ℕ) → a < n → 0 < n
      flat a n h = omega arith

  m-pos : 0 < m
  m-pos = mul-pos hc n_pos

  n-le : n ≤ m
  n-le = le_trans (le_of_eq (sym (one-mul n))) (mul-le-mul_right n hc)

  d-pos : 0 < d
  d-pos = flat d a n m e above n-le
    where
      flat : (d a n m : ℕ) → d + a ≡ m → a < n → n ≤ m → 0 < d
      flat d a n m e h k = omega arith

  sum-pos : 0 < m + a
  sum-pos = flat m a m-pos
    where
      flat : (m a : ℕ) → 0 < m → 0 < m + a
      flat m a h = omega arith

  square : d * (m + a) + a * a ≡ m * m
  square = subst (λ (z : ℕ). d * (z + a) + a * a ≡ z * z) e (flat d a)
    where
      flat : (d a : ℕ) → d * (d + a + a) + a * a ≡ (d + a) * (d + a)
      flat d a = omega arith

  few : n * (a * a) * suc E ≤ m * m
  few = le_trans (le_of_eq (mul_assoc n (a * a) (suc E))) (le_trans (mul-le-mul_left n many) (mul-le-mul n-le n-le))

  near : (m * m) ^ n * E ≤ (d * (m + a)) ^ n * suc E
  near = le_of_mul-le-mul_left
      (flat ((m * m) ^ n) ((d * (m + a)) ^ n) (m * m) (n * (a * a)) E
      (mul-le-mul_right (suc E)
      (subst (λ (z : ℕ). z ^ n * z ≤ (d * (m + a)) ^ n * z + n * (a * a) * z ^ n) square
      (bernoulli (d * (m + a)) (a * a) n)))
      (mul-le-mul_right ((m * m) ^ n) few)) (mul-pos m-pos m-pos)
    where
      flat : (Z Y z b E : ℕ) → Z * z * suc E ≤ (Y * z + b * Z) * suc E → b * suc E * Z ≤ z * Z
          → z * (Z * E) ≤ z * (Y * suc E)
      flat Z Y z b E h k = omega arith

  both : m ^ n * m ^ n * E ≤ d ^ n * (m + a) ^ n * suc E
  both = le_trans (le_of_eq (ap (λ (z : ℕ). z * E) (sym (mul-pow n m m))))
      (le_trans near (le_of_eq (ap (λ (z : ℕ). z * suc E) (mul-pow n d (m + a)))))

  both' : m ^ n * m ^ n * E ≤ (m + a) ^ n * d ^ n * suc E
  both' = subst (λ (z : ℕ). m ^ n * m ^ n * E ≤ z * suc E) (mul_comm (d ^ n) ((m + a) ^ n)) both

  -- e ^ x for x = a / c
  plus-high : ExpAtMost false a c (m ^ n) (d ^ n)
  plus-high k hk r = le_trans (meet k n a d c hk n_pos e) (le_of_eq (mul_comm ((c * k) ^ k) (m ^ n)))

  plus-low : ExpAtLeast false a c (m ^ n * E) (d ^ n * suc E)
  plus-low k hk r = through ((m + a) ^ n) ((c * k - a) ^ k) (m ^ n) ((c * k) ^ k) (d ^ n) E (one-le-pow n (m + a) sum-pos)
      (meet n k a (c * k - a) c n_pos hk (sub-add_cancel r)) both'

  -- and for x = - a / c
  minus-high : ExpAtMost true a c (m ^ n) ((m + a) ^ n)
  minus-high k hk r = le_trans (le_of_eq (mul_comm ((c * k - a) ^ k) ((m + a) ^ n)))
      (meet n k a (c * k - a) c n_pos hk (sub-add_cancel r))

  minus-low : ExpAtLeast true a c (m ^ n * E) ((m + a) ^ n * suc E)
  minus-low k hk r = through (d ^ n) ((c * k + a) ^ k) (m ^ n) ((c * k) ^ k) ((m + a) ^ n) E (one-le-pow n d d-pos)
      (le_trans (le_of_eq (mul_comm (d ^ n) ((c * k + a) ^ k))) (plus-high k hk r)) both

  close : (s : Bool) → (P : ℕ) × (Q : ℕ) × (0 < Q) × ExpAtMost s a c P Q × ExpAtLeast s a c (P * E) (Q * suc E)
  close false = (m ^ n, d ^ n, one-le-pow n d d-pos, plus-high, plus-low)
  close true = (m ^ n, (m + a) ^ n, one-le-pow n (m + a) sum-pos, minus-high, minus-low)

-- THE LAW: an upper bound P / Q, and a lower one that is at most one part in E + 1 below it
pub bounds-close : (s : Bool) (a c E : ℕ) → 0 < c
    → (P : ℕ) × (Q : ℕ) × (0 < Q) × ExpAtMost s a c P Q × ExpAtLeast s a c (P * E) (Q * suc E)
bounds-close s a c E hc =
    let n = suc (a * a * suc E + a) in
    let above : a < n = less (a * a * suc E) a in
    let le : a ≤ c * n = le_trans (le_of_lt above) (le_trans (le_of_eq (sym (one-mul n))) (mul-le-mul_right n hc)) in
    close a c E n (c * n - a) hc (more (a * a * suc E) a) above (sub-add_cancel le) s
  where
    less : (x a : ℕ) → a < suc (x + a)
    less x a = omega arith

    more : (x a : ℕ) → x ≤ suc (x + a)
    more x a = omega arith
