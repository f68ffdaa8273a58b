-- What was shown by some n holds for every n: from `Nearly` to `IsExp`, by (1 + t / m) ^ m (1 - t / n) ^ n ≤ 1.
-- Assumes nothing.
use Rattle.accuracy.proofs.Prelude.{◌≡◌, sym, ap, ◌∙◌, subst, true, false, ℕ, suc, ◌+◌, ◌*◌, ◌^◌, ◌≤◌, ◌<◌}
use Rattle.accuracy.proofs.Prelude.{arith, pow-add}
use native.Mathlib.Nat.{le_trans, le_of_eq, mul-le-mul_right, mul-le-mul_left, mul_comm, mul_assoc}
use native.Mathlib.Nat.{le_of_mul-le-mul_left, le_of_mul-le-mul_right, mul-pos, mul_left_comm, mul_right_comm}
use native.Mathlib.Nat.{sub-zero, one-le-pow}
use Rattle.accuracy.proofs.Euler.Bounds.{Below, IsExp}
use Rattle.accuracy.proofs.Euler.Means.{mean, mul-pow}
use Rattle.accuracy.proofs.Euler.AnySign.{Nearly}

weighted : (m n a d c : ℕ) → d + a ≡ c * n → m * ((c * m + a) * n) + n * (d * m) ≡ c * m * n * (m + n)
weighted m n a d c h =
    let k : m * n * (d + a) ≡ m * n * (c * n) = ap (λ (z : ℕ). m * n * z) h in
    flat m n a d c k
  where
    flat : (m n a d c : ℕ) → m * n * (d + a) ≡ m * n * (c * n)
        → m * ((c * m + a) * n) + n * (d * m) ≡ c * m * n * (m + n)
    flat m n a d c h = omega arith

parts : (m n c : ℕ) → (c * m * n) ^ (m + n) ≡ (c * m) ^ m * n ^ m * ((c * n) ^ n * m ^ n)
parts m n c = pow-add (c * m * n) m n ∙ ap (λ (z : ℕ). z * (c * m * n) ^ n) (mul-pow m (c * m) n)
    ∙ ap (λ (z : ℕ). (c * m) ^ m * n ^ m * z) (ap (λ (z : ℕ). z ^ n) (mul_right_comm c m n) ∙ mul-pow n (c * n) m)

-- (1 + t / m) ^ m (1 - t / n) ^ n ≤ 1
pub meet : (m n a d c : ℕ) → 0 < m → 0 < n → d + a ≡ c * n → (c * m + a) ^ m * d ^ n ≤ (c * m) ^ m * (c * n) ^ n
meet m n a d c hm hn h =
    let g : ((c * m + a) * n) ^ m * (d * m) ^ n * (m + n) ^ (m + n) ≤ (c * m * n) ^ (m + n) * (m + n) ^ (m + n) =
    le_trans (mean m n ((c * m + a) * n) (d * m))
    (le_of_eq (ap (λ (z : ℕ). z ^ (m + n)) (weighted m n a d c h) ∙ mul-pow (m + n) (c * m * n) (m + n))) in
    let g2 : ((c * m + a) * n) ^ m * (d * m) ^ n ≤ (c * m * n) ^ (m + n) =
    le_of_mul-le-mul_right g (one-le-pow (m + n) (m + n) (sum m n hm)) in
    let g3 : (c * m + a) ^ m * n ^ m * (d ^ n * m ^ n) ≤ (c * m) ^ m * n ^ m * ((c * n) ^ n * m ^ n) =
    le_trans (le_of_eq (ap (λ (z : ℕ). z * (d ^ n * m ^ n)) (sym (mul-pow m (c * m + a) n))
    ∙ ap (λ (z : ℕ). ((c * m + a) * n) ^ m * z) (sym (mul-pow n d m)))) (le_trans g2 (le_of_eq (parts m n c))) in
    cancel ((c * m + a) ^ m) (d ^ n) ((c * m) ^ m) ((c * n) ^ n) (n ^ m) (m ^ n)
    (mul-pos (one-le-pow m n hn) (one-le-pow n m hm)) g3
  where
    sum : (m n : ℕ) → 0 < m → 0 < m + n
    sum m n h = omega arith

    cancel : (p q u v x y : ℕ) → 0 < x * y → p * x * (q * y) ≤ u * x * (v * y) → p * q ≤ u * v
    cancel p q u v x y z h =
        le_of_mul-le-mul_left (le_trans (le_of_eq (turn p q x y)) (le_trans h (le_of_eq (sym (turn u v x y))))) z
      where
        turn : (p q x y : ℕ) → x * y * (p * q) ≡ p * x * (q * y)
        turn p q x y = omega arith

-- a lower bound, for every n
pub lowered : (a c P Q n d : ℕ) → 0 < c → 0 < n → d + a ≡ c * n → Below a c P Q → P * d ^ n ≤ Q * (c * n) ^ n
lowered a c P Q n d hc hn h (m, hm, k) =
    vars P Q (d ^ n) ((c * n) ^ n) ((c * m) ^ m) ((c * m + a) ^ m) (one-le-pow m (c * m) (mul-pos hc hm)) k
    (meet m n a d c hm hn h)
  where
    vars : (P Q x y u p : ℕ) → 0 < u → P * u ≤ Q * p → p * x ≤ u * y → P * x ≤ Q * y
    vars P Q x y u p z k l = le_of_mul-le-mul_left
        (le_trans (le_of_eq (e1 P x u))
        (le_trans (mul-le-mul_right x k)
        (le_trans (le_of_eq (mul_assoc Q p x)) (le_trans (mul-le-mul_left Q l) (le_of_eq (mul_left_comm Q u y)))))) z
      where
        e1 : (P x u : ℕ) → u * (P * x) ≡ P * u * x
        e1 P x u = omega arith

nothing : (a : ℕ) → 0 ≤ a
nothing a = omega arith

pub said-plus : (a c P Q E : ℕ) → 0 < c → Nearly a 0 c P Q E → IsExp false a c P Q E
said-plus a c P Q E hc h n d hn q = (
  subst (λ (x : ℕ). (c * n + x) ^ n * (Q * E) ≤ P * suc E * (c * n) ^ n) (sub-zero a) (h.above.over (nothing a) n hn),
  lowered a c (P * E) (Q * suc E) n d hc hn q (subst (λ (x : ℕ). Below x c (P * E) (Q * suc E)) (sub-zero a)
      (h.below.under (nothing a))),
)

pub said-minus : (a c P Q E : ℕ) → 0 < c → Nearly 0 a c P Q E → IsExp true a c P Q E
said-minus a c P Q E hc h n d hn q = (
  le_trans (le_of_eq (mul_comm (d ^ n) (Q * E)))
      (lowered a c (Q * E) (P * suc E) n d hc hn q (subst (λ (x : ℕ). Below x c (Q * E) (P * suc E)) (sub-zero a)
      (h.above.under (nothing a)))),
  le_trans (le_of_eq (mul_comm (P * E) ((c * n + a) ^ n)))
      (subst (λ (x : ℕ). (c * n + x) ^ n * (P * E) ≤ Q * suc E * (c * n) ^ n) (sub-zero a)
      (h.below.over (nothing a) n hn)),
)
