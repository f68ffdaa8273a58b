-- e ^ t for t = (p - m) / c, whichever of p and m is larger: `Exp p m c P Q` is e ^ t ≤ P / Q, and P / Q ≤ e ^ t is
-- `Exp m p c Q P`. Its one law: where the exponents are added the bounds are multiplied. Assumes nothing.
use Rattle.accuracy.proofs.Prelude.{◌≡◌, sym, ap, ◌∙◌, subst, ◌⊎◌, inl, inr, Bool, true, false, not, ℕ, suc, ◌+◌}
use Rattle.accuracy.proofs.Prelude.{◌-◌, ◌*◌, ◌^◌, ◌≤◌, ◌<◌, arith, T, ltb, ltb→lt, nltb→le}
use native.Mathlib.Nat.{le_refl, le_trans, le_of_eq, mul_comm, mul-pos, mul-le-mul_right, le_of_mul-le-mul_right}
use native.Mathlib.Nat.{add-zero, le_of_lt, sub-zero, one-le-pow}
use Rattle.accuracy.proofs.Euler.Bounds.{Above, Below}
use Rattle.accuracy.proofs.Euler.Products.{above-mul, above-div, below-mul, below-div}
use Rattle.accuracy.proofs.Euler.Weaker.{Near, above-weaken, below-weaken}

-- e ^ ((p - m) / c) ≤ P / Q
pub record Exp (p m c P Q : ℕ) : Type 0 where
  pub over : m ≤ p → Above (p - m) c P Q
  pub under : p ≤ m → Below (m - p) c Q P

way : (a b : ℕ) → (a < b) ⊎ (b ≤ a)
way a b = go (ltb a b) (ltb→lt a b) (nltb→le a b)
  where
    go : (t : Bool) → (T t → a < b) → (T (not t) → b ≤ a) → (a < b) ⊎ (b ≤ a)
    go true h k = inl (h tt)
    go false h k = inr (k tt)

-- THE LAW
module _ (p m p' m' c P Q P' Q' : ℕ) (hc : 0 < c) (x : Exp p m c P Q) (y : Exp p' m' c P' Q') where
  over-mul : m + m' ≤ p + p' → Above (p + p' - (m + m')) c (P * P') (Q * Q')
  over-mul h = elim (way p m) [
    | inl k ↦ elim (way p' m') [
      | inl k' ↦ absurd (never k k' h)
      | inr k' ↦
          let s = p + p' - (m + m') in
          let e : p' - m' ≡ s + (m - p) = omega arith in
          subst (λ (z : ℕ). Above s c z (Q * Q')) (mul_comm P' P)
          (subst (λ (z : ℕ). Above s c (P' * P) z) (mul_comm Q' Q)
          (above-div s (m - p) c P' Q' Q P hc (x.under (le_of_lt k))
          (subst (λ (z : ℕ). Above z c P' Q') e (y.over k'))))
    ]
    | inr k ↦ elim (way p' m') [
      | inl k' ↦
          let s = p + p' - (m + m') in
          let e : p - m ≡ s + (m' - p') = omega arith in
          above-div s (m' - p') c P Q Q' P' hc (y.under (le_of_lt k')) (subst (λ (z : ℕ). Above z c P Q) e (x.over k))
      | inr k' ↦
          let e : p - m + (p' - m') ≡ p + p' - (m + m') = omega arith in
          subst (λ (z : ℕ). Above z c (P * P') (Q * Q')) e (above-mul (p - m) (p' - m') c P Q P' Q' hc (x.over k)
          (y.over k'))
    ]
  ]
    where
      never : p < m → p' < m' → m + m' ≤ p + p' → ⊥
      never h k l = omega arith

  under-mul : p + p' ≤ m + m' → Below (m + m' - (p + p')) c (Q * Q') (P * P')
  under-mul h = elim (way m p) [
    | inl k ↦ elim (way m' p') [
      | inl k' ↦ absurd (never k k' h)
      | inr k' ↦
          let s = m + m' - (p + p') in
          let e : m' - p' ≡ s + (p - m) = omega arith in
          subst (λ (z : ℕ). Below s c z (P * P')) (mul_comm Q' Q)
          (subst (λ (z : ℕ). Below s c (Q' * Q) z) (mul_comm P' P)
          (below-div s (p - m) c Q' P' P Q hc (x.over (le_of_lt k))
          (subst (λ (z : ℕ). Below z c Q' P') e (y.under k'))))
    ]
    | inr k ↦ elim (way m' p') [
      | inl k' ↦
          let s = m + m' - (p + p') in
          let e : m - p ≡ s + (p' - m') = omega arith in
          below-div s (p' - m') c Q P P' Q' hc (y.over (le_of_lt k')) (subst (λ (z : ℕ). Below z c Q P) e (x.under k))
      | inr k' ↦
          let e : m - p + (m' - p') ≡ m + m' - (p + p') = omega arith in
          subst (λ (z : ℕ). Below z c (Q * Q') (P * P')) e (below-mul (m - p) (m' - p') c Q P Q' P' hc (x.under k)
          (y.under k'))
    ]
  ]
    where
      never : m < p → m' < p' → p + p' ≤ m + m' → ⊥
      never h k l = omega arith

  pub exp-mul : Exp (p + p') (m + m') c (P * P') (Q * Q')
  exp-mul = record { over = over-mul; under = under-mul }

pub exp-weaken : (p m c P Q P' Q' : ℕ) → 0 < P → 0 < Q → P * Q' ≤ P' * Q → Exp p m c P Q → Exp p m c P' Q'
exp-weaken p m c P Q P' Q' hp hq h x = record {
  over = λ (k : m ≤ p). above-weaken (p - m) c P Q P' Q' hq h (x.over k);
  under = λ (k : p ≤ m). below-weaken (m - p) c Q P Q' P' hp
      (le_trans (le_of_eq (mul_comm Q' P)) (le_trans h (le_of_eq (mul_comm P' Q)))) (x.under k);
}

-- only the difference counts
pub exp-shift : (p m p' m' c P Q : ℕ) → p + m' ≡ p' + m → Exp p m c P Q → Exp p' m' c P Q
exp-shift p m p' m' c P Q e x = record {
  over = λ (k : m' ≤ p'). subst (λ (z : ℕ). Above z c P Q) (one k) (x.over (two k));
  under = λ (k : p' ≤ m'). subst (λ (z : ℕ). Below z c Q P) (three k) (x.under (four k));
}
  where
    one : m' ≤ p' → p - m ≡ p' - m'
    one k = omega arith

    two : m' ≤ p' → m ≤ p
    two k = omega arith

    three : p' ≤ m' → m - p ≡ m' - p'
    three k = omega arith

    four : p' ≤ m' → p ≤ m
    four k = omega arith

-- e ^ ((p - m) / c) is W / B up to one part in E
pub record Nearly (p m c W B E : ℕ) : Type 0 where
  pub above : Exp p m c (W * suc E) (B * E)
  pub below : Exp m p c (B * suc E) (W * E)

-- Above at 0 says P / Q ≥ 1, and so gives Below at 0
at_zero : (c P Q : ℕ) → 0 < c → Above 0 c P Q → Below 0 c Q P
at_zero c P Q hc h = (
  1,
  le_refl 1,
  flat ((c * 1) ^ 1) ((c * 1 + 0) ^ 1) (ap (λ (z : ℕ). z ^ 1) (sym (add-zero (c * 1)))) (h 1 (le_refl 1)),
)
  where
    flat : (u v : ℕ) → u ≡ v → v * Q ≤ P * u → Q * u ≤ P * v
    flat u v e k = subst (λ (z : ℕ). Q * u ≤ P * z) e
        (le_trans (le_of_eq (mul_comm Q u)) (le_trans (mul-le-mul_right Q (le_of_eq e)) k))

below-zero : (c P Q : ℕ) → 0 < c → Below 0 c P Q → Above 0 c Q P
below-zero c P Q hc (n, hn, h) k hk = go
  where
    pos : 0 < (c * n) ^ n
    pos = one-le-pow n (c * n) (mul-pos hc hn)

    le : P ≤ Q
    le = le_of_mul-le-mul_right (le_trans h (le_of_eq (ap (λ (z : ℕ). Q * z ^ n) (add-zero (c * n))))) pos

    go : (c * k + 0) ^ k * P ≤ Q * (c * k) ^ k
    go = le_trans (le_of_eq (ap (λ (z : ℕ). z ^ k * P) (add-zero (c * k)) ∙ mul_comm ((c * k) ^ k) P))
        (mul-le-mul_right ((c * k) ^ k) le)

pub exp-above : (a c P Q : ℕ) → 0 < c → Above a c P Q → Exp a 0 c P Q
exp-above a c P Q hc h = record {
  over = λ (k : 0 ≤ a). subst (λ (z : ℕ). Above z c P Q) (sym (sub-zero a)) h;
  under = λ (k : a ≤ 0). subst (λ (z : ℕ). Below z c Q P) (three k)
      (at_zero c P Q hc (subst (λ (z : ℕ). Above z c P Q) (zero_of k) h));
}
  where
    three : a ≤ 0 → 0 ≡ 0 - a
    three k = omega arith

    zero_of : a ≤ 0 → a ≡ 0
    zero_of k = omega arith

pub exp-below : (a c P Q : ℕ) → 0 < c → Below a c P Q → Exp 0 a c Q P
exp-below a c P Q hc h = record {
  over = λ (k : a ≤ 0). subst (λ (z : ℕ). Above z c Q P) (three k)
      (below-zero c P Q hc (subst (λ (z : ℕ). Below z c P Q) (zero_of k) h));
  under = λ (k : 0 ≤ a). subst (λ (z : ℕ). Below z c P Q) (sym (sub-zero a)) h;
}
  where
    three : a ≤ 0 → 0 ≡ 0 - a
    three k = omega arith

    zero_of : a ≤ 0 → a ≡ 0
    zero_of k = omega arith

pub nearly-plus : (a c W B E : ℕ) → 0 < c → Near a c W B E → Nearly a 0 c W B E
nearly-plus a c W B E hc h = record {
  above = exp-above a c (W * suc E) (B * E) hc h.above;
  below = exp-below a c
      (W * E) (B * suc E) hc h.below;
}

-- where e ^ (a / c) is B / W, e ^ (- a / c) is W / B
pub nearly-minus : (a c W B E : ℕ) → 0 < c → Near a c B W E → Nearly 0 a c W B E
nearly-minus a c W B E hc h = record {
  above = exp-below a c (B * E) (W * suc E) hc h.below;
  below = exp-above a c
      (B * suc E) (W * E) hc h.above;
}
