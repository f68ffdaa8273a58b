-- e ^ (s + t) = e ^ s e ^ t, as four laws of bounds: products and quotients of upper and lower bounds, with nothing
-- lost. Assumes nothing.
use Rattle.accuracy.proofs.Prelude.{◌≡◌, sym, ap, ◌∙◌, subst, ℕ, ◌+◌, ◌*◌, ◌^◌, ◌≤◌, ◌<◌, arith, pow-add}
use native.Mathlib.Nat.{le_trans, le_of_eq, mul-le-mul_right, mul-le-mul_left, mul-le-mul, le_of_mul-le-mul_left}
use native.Mathlib.Nat.{mul-pos, pow-le-pow_left, mul-mul-mul_comm, one-le-pow}
use Rattle.accuracy.proofs.Euler.Bounds.{Above, Below}
use Rattle.accuracy.proofs.Euler.Means.{mean, mul-pow}

-- ---- (1 + s / n) ^ n (1 + t / m) ^ m ≤ (1 + (s + t) / (n + m)) ^ (n + m)
cancel : (p q K Mn Nm Nn Mm S : ℕ) → 0 < Mn * Nm → p * Mn * (q * Nm) * K ≤ Nn * Nm * (Mn * Mm) * S
    → p * q * K ≤ Nn * Mm * S
cancel p q K Mn Nm Nn Mm S z h =
    le_of_mul-le-mul_left (le_trans (le_of_eq (a p q K Mn Nm)) (le_trans h (le_of_eq (b Mn Nm Nn Mm S)))) z
  where
    a : (p q K Mn Nm : ℕ) → Mn * Nm * (p * q * K) ≡ p * Mn * (q * Nm) * K
    a p q K Mn Nm = omega arith

    b : (Mn Nm Nn Mm S : ℕ) → Nn * Nm * (Mn * Mm) * S ≡ Mn * Nm * (Nn * Mm * S)
    b Mn Nm Nn Mm S = omega arith

weighted : (n m a b c : ℕ) → n * ((c * n + a) * m) + m * ((c * m + b) * n) ≡ n * m * (c * (n + m) + (a + b))
weighted n m a b c = omega arith

four : (n m x : ℕ) → (n * m * x) ^ (n + m) ≡ n ^ n * n ^ m * (m ^ n * m ^ m) * x ^ (n + m)
four n m x = mul-pow (n + m) (n * m) x ∙ ap (λ (z : ℕ). z * x ^ (n + m))
    (mul-pow (n + m) n m ∙ ap (λ (z : ℕ). z * m ^ (n + m)) (pow-add n n m) ∙ ap (λ (z : ℕ). n ^ n * n ^ m * z)
    (pow-add m n m))

pub join : (n m a b c : ℕ) → 0 < n → 0 < m
    → (c * n + a) ^ n * (c * m + b) ^ m * (c * (n + m)) ^ (n + m)
    ≤ (c * n) ^ n * (c * m) ^ m * (c * (n + m) + (a + b)) ^ (n + m)
join n m a b c hn hm =
    let S = c * (n + m) + (a + b) in
    let g : ((c * n + a) * m) ^ n * ((c * m + b) * n) ^ m * (n + m) ^ (n + m) ≤ (n * m * S) ^ (n + m) =
    subst (λ (z : ℕ). ((c * n + a) * m) ^ n * ((c * m + b) * n) ^ m * (n + m) ^ (n + m) ≤ z ^ (n + m))
    (weighted n m a b c) (mean n m ((c * n + a) * m) ((c * m + b) * n)) in
    let g2 : (c * n + a) ^ n * m ^ n * ((c * m + b) ^ m * n ^ m) * (n + m) ^ (n + m)
    ≤ n ^ n * n ^ m * (m ^ n * m ^ m) * S ^ (n + m) =
    subst (λ (z : ℕ). z * ((c * m + b) ^ m * n ^ m) * (n + m) ^ (n + m)
    ≤ n ^ n * n ^ m * (m ^ n * m ^ m) * S ^ (n + m)) (mul-pow n (c * n + a) m)
    (subst (λ (z : ℕ). ((c * n + a) * m) ^ n * z * (n + m) ^ (n + m) ≤ n ^ n * n ^ m * (m ^ n * m ^ m) * S ^ (n + m))
    (mul-pow m (c * m + b) n)
    (subst (λ (z : ℕ). ((c * n + a) * m) ^ n * ((c * m + b) * n) ^ m * (n + m) ^ (n + m) ≤ z) (four n m S) g)) in
    let g3 = cancel ((c * n + a) ^ n) ((c * m + b) ^ m) ((n + m) ^ (n + m)) (m ^ n) (n ^ m) (n ^ n) (m ^ m)
    (S ^ (n + m)) (mul-pos (one-le-pow n m hm) (one-le-pow m n hn)) g2 in
    rw (mul-pow (n + m) c (n + m), pow-add c n m, mul-pow n c n, mul-pow m c m)
    (le_trans (le_of_eq (left ((c * n + a) ^ n) ((c * m + b) ^ m) (c ^ n) (c ^ m) ((n + m) ^ (n + m))))
    (le_trans (mul-le-mul_left (c ^ n * c ^ m) g3) (le_of_eq (right (c ^ n) (c ^ m) (n ^ n) (m ^ m) (S ^ (n + m))))))
  where
    left : (p q C D K : ℕ) → p * q * (C * D * K) ≡ C * D * (p * q * K)
    left p q C D K = omega arith

    right : (C D N M S : ℕ) → C * D * (N * M * S) ≡ C * N * (D * M) * S
    right C D N M S = omega arith

-- ---- (1 + (s + t) / n) ^ n ≤ (1 + s / n) ^ n (1 + t / n) ^ n
pub apart : (n a b c : ℕ) → (c * n + (a + b)) ^ n * (c * n) ^ n ≤ (c * n + a) ^ n * (c * n + b) ^ n
apart n a b c =
    le_trans (le_of_eq (sym (mul-pow n (c * n + (a + b)) (c * n))))
    (le_trans (pow-le-pow_left (flat (c * n) a b) n) (le_of_eq (mul-pow n (c * n + a) (c * n + b))))
  where
    flat : (q a b : ℕ) → (q + (a + b)) * q ≤ (q + a) * (q + b)
    flat q a b = omega arith

-- ---- the four laws
base-pos : (n c : ℕ) → 0 < n → 0 < c → 0 < (c * n) ^ n
base-pos n c hn hc = one-le-pow n (c * n) (mul-pos hc hn)

above-mul-vars : (p q s u P Q R S : ℕ) → 0 < u → s * u ≤ p * q → p * Q ≤ P * u → q * S ≤ R * u → s * (Q * S) ≤ P * R * u
above-mul-vars p q s u P Q R S z h k l =
    le_of_mul-le-mul_left
    (le_trans (le_of_eq (e1 s u Q S))
    (le_trans (mul-le-mul_right (Q * S) h)
    (le_trans (le_of_eq (mul-mul-mul_comm p q Q S)) (le_trans (mul-le-mul k l) (le_of_eq (e3 P R u)))))) z
  where
    e1 : (s u Q S : ℕ) → u * (s * (Q * S)) ≡ s * u * (Q * S)
    e1 s u Q S = omega arith

    e3 : (P R u : ℕ) → P * u * (R * u) ≡ u * (P * R * u)
    e3 P R u = omega arith

pub above-mul : (a b c P Q R S : ℕ) → 0 < c → Above a c P Q → Above b c R S → Above (a + b) c (P * R) (Q * S)
above-mul a b c P Q R S hc h k n hn =
    above-mul-vars ((c * n + a) ^ n) ((c * n + b) ^ n) ((c * n + (a + b)) ^ n) ((c * n) ^ n) P Q R S
    (base-pos n c hn hc) (apart n a b c) (h n hn) (k n hn)

below-div-vars : (p q s u P Q R S : ℕ) → 0 < u → s * u ≤ p * q → q * S ≤ R * u → P * u ≤ Q * s → P * S * u ≤ Q * R * p
below-div-vars p q s u P Q R S z h k l =
    le_of_mul-le-mul_left
    (le_trans (le_of_eq (e1 P S u))
    (le_trans (mul-le-mul_right (S * u) l)
    (le_trans (le_of_eq (e2 Q s S u)) (le_trans (mul-le-mul_right (Q * S) h)
    (le_trans (le_of_eq (mul-mul-mul_comm p q Q S))
    (le_trans (mul-le-mul_left (p * Q) k) (le_of_eq (e4 p Q R u)))))))) z
  where
    e1 : (P S u : ℕ) → u * (P * S * u) ≡ P * u * (S * u)
    e1 P S u = omega arith

    e2 : (Q s S u : ℕ) → Q * s * (S * u) ≡ s * u * (Q * S)
    e2 Q s S u = omega arith

    e4 : (p Q R u : ℕ) → p * Q * (R * u) ≡ u * (Q * R * p)
    e4 p Q R u = omega arith

pub below-div : (a b c P Q R S : ℕ) → 0 < c → Above b c R S → Below (a + b) c P Q → Below a c (P * S) (Q * R)
below-div a b c P Q R S hc k (n, hn, l) = (
  n,
  hn,
  below-div-vars ((c * n + a) ^ n) ((c * n + b) ^ n) ((c * n + (a + b)) ^ n) ((c * n) ^ n) P Q R S
      (base-pos n c hn hc) (apart n a b c) (k n hn) l,
)

below-mul-vars : (p q s u v w P Q R S : ℕ) → 0 < u * v → p * q * w ≤ u * v * s → P * u ≤ Q * p → R * v ≤ S * q
    → P * R * w ≤ Q * S * s
below-mul-vars p q s u v w P Q R S z h k l =
    le_of_mul-le-mul_left
    (le_trans (le_of_eq (e1 P R u v w))
    (le_trans (mul-le-mul_right w (mul-le-mul k l))
    (le_trans (le_of_eq (e2 Q S p q w)) (le_trans (mul-le-mul_left (Q * S) h) (le_of_eq (e3 Q S u v s)))))) z
  where
    e1 : (P R u v w : ℕ) → u * v * (P * R * w) ≡ P * u * (R * v) * w
    e1 P R u v w = omega arith

    e2 : (Q S p q w : ℕ) → Q * p * (S * q) * w ≡ Q * S * (p * q * w)
    e2 Q S p q w = omega arith

    e3 : (Q S u v s : ℕ) → Q * S * (u * v * s) ≡ u * v * (Q * S * s)
    e3 Q S u v s = omega arith

sum-pos : (n m : ℕ) → 0 < n → 0 < n + m
sum-pos n m h = omega arith

pub below-mul : (a b c P Q R S : ℕ) → 0 < c → Below a c P Q → Below b c R S → Below (a + b) c (P * R) (Q * S)
below-mul a b c P Q R S hc (n, hn, k) (m, hm, l) = (
  n + m,
  sum-pos n m hn,
  below-mul-vars ((c * n + a) ^ n) ((c * m + b) ^ m) ((c * (n + m) + (a + b)) ^ (n + m)) ((c * n) ^ n) ((c * m) ^ m)
      ((c * (n + m)) ^ (n + m)) P Q R S
      (mul-pos (base-pos n c hn hc) (base-pos m c hm hc)) (join n m a b c hn hm) k l,
)

above-div-vars : (p q s u v w P Q R S : ℕ) → 0 < v * w → p * q * w ≤ u * v * s → R * v ≤ S * q → s * Q ≤ P * w
    → p * (Q * R) ≤ P * S * u
above-div-vars p q s u v w P Q R S z h k l =
    le_of_mul-le-mul_left
    (le_trans (le_of_eq (e1 p Q R v w))
    (le_trans (mul-le-mul_right (p * Q * w) k)
    (le_trans (le_of_eq (e2 S q p Q w)) (le_trans (mul-le-mul_right (S * Q) h)
    (le_trans (le_of_eq (e3 u v s S Q)) (le_trans (mul-le-mul_right (u * v * S) l) (le_of_eq (e4 P w u v S)))))))) z
  where
    e1 : (p Q R v w : ℕ) → v * w * (p * (Q * R)) ≡ R * v * (p * Q * w)
    e1 p Q R v w = omega arith

    e2 : (S q p Q w : ℕ) → S * q * (p * Q * w) ≡ p * q * w * (S * Q)
    e2 S q p Q w = omega arith

    e3 : (u v s S Q : ℕ) → u * v * s * (S * Q) ≡ s * Q * (u * v * S)
    e3 u v s S Q = omega arith

    e4 : (P w u v S : ℕ) → P * w * (u * v * S) ≡ v * w * (P * S * u)
    e4 P w u v S = omega arith

pub above-div : (a b c P Q R S : ℕ) → 0 < c → Below b c R S → Above (a + b) c P Q → Above a c (P * S) (Q * R)
above-div a b c P Q R S hc (m, hm, k) l n hn =
    above-div-vars ((c * n + a) ^ n) ((c * m + b) ^ m) ((c * (n + m) + (a + b)) ^ (n + m)) ((c * n) ^ n) ((c * m) ^ m)
    ((c * (n + m)) ^ (n + m)) P Q R S
    (mul-pos (base-pos m c hm hc) (base-pos (n + m) c (sum-pos n m hn) hc)) (join n m a b c hn hm) k
    (l (n + m) (sum-pos n m hn))
