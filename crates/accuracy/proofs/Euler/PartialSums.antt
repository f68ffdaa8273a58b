-- The partial sums of e ^ t = 1 + t + t^2 / 2! + .. bound it from below, up to a factor 1 + t / m for any m, and with
-- the last term twice they bound it from above. Assumes nothing.
use Rattle.accuracy.proofs.Prelude.{◌≡◌, refl, sym, ap, ◌∙◌, subst, ℕ, zero, suc, ◌+◌, ◌*◌, ◌^◌, ◌≤◌, ◌<◌, arith}
use native.Mathlib.Nat.{le_refl, le_trans, le_of_eq, pow-zero, pow-succ', mul-le-mul_right, mul-le-mul_left}
use native.Mathlib.Nat.{mul_assoc, mul_comm, le_of_mul-le-mul_left, mul-pos, pow-le-pow_left, zero-lt-suc}
use native.Mathlib.Nat.{le-add_right, mul_left_comm, zero-mul, one-le-pow}
use Rattle.accuracy.proofs.Euler.Bounds.{Above, Below}
use Rattle.accuracy.proofs.Euler.Means.{tangent, mul-pow}

-- 1 + t + t^2 / 2! + .. + t^K / K! at t = v / q is `part K v q` / `scale K q`
unfoldable pub part : ℕ → ℕ → ℕ → ℕ
part zero v q = 1
part (suc k) v q = suc k * (q * part k v q) + v ^ suc k

unfoldable pub scale : ℕ → ℕ → ℕ
scale zero q = 1
scale (suc k) q = suc k * (q * scale k q)

pub part-suc : (k v q : ℕ) → part (suc k) v q ≡ suc k * (q * part k v q) + v ^ suc k
unfolding part
part-suc k v q = refl

pub part-zero : (v q : ℕ) → part 0 v q ≡ 1
unfolding part
part-zero v q = refl

pub scale-suc : (k q : ℕ) → scale (suc k) q ≡ suc k * (q * scale k q)
unfolding scale
scale-suc k q = refl

pub scale-zero : (q : ℕ) → scale 0 q ≡ 1
unfolding scale
scale-zero q = refl

pub scale-pos : (k q : ℕ) → 0 < q → 0 < scale k q
scale-pos zero q h = rw (scale-zero q) (le_refl 1)
scale-pos (suc k) q h = rw (scale-suc k q) (mul-pos (zero-lt-suc k) (mul-pos h (scale-pos k q h)))

-- ---- a power at v + a
pow-up : (j v a : ℕ) → (v + a) ^ suc j ≤ v ^ suc j + suc j * (a * (v + a) ^ j)
pow-up j v a =
    let t : suc j * (v * (v + a) ^ j) ≤ v ^ suc j + j * ((v + a) * (v + a) ^ j) =
    rw (pow-succ' (v + a) j) at (tangent j v (v + a)) in
    rw (pow-succ' (v + a) j) (flat j v a ((v + a) ^ j) (v ^ suc j) t)
  where
    flat : (j v a W X : ℕ) → suc j * (v * W) ≤ X + j * ((v + a) * W) → (v + a) * W ≤ X + suc j * (a * W)
    flat j v a W X h = omega arith

pow_low : (j v a : ℕ) → v ^ suc j + suc j * (a * v ^ j) ≤ (v + a) ^ suc j
pow_low j v a =
    let t : suc j * ((v + a) * v ^ j) ≤ (v + a) ^ suc j + j * (v * v ^ j) =
    rw (pow-succ' v j) at (tangent j (v + a) v) in
    rw (pow-succ' v j) (flat j v a (v ^ j) ((v + a) ^ suc j) t)
  where
    flat : (j v a W X : ℕ) → suc j * ((v + a) * W) ≤ X + j * (v * W) → v * W + suc j * (a * W) ≤ X
    flat j v a W X h = omega arith

-- ---- a partial sum at v + a
grow-up : (k v a q : ℕ) → part (suc k) (v + a) q ≤ part (suc k) v q + a * (suc k * part k (v + a) q)
grow-up zero v a q = rw (
  part-suc 0 (v + a) q,
  part-suc 0 v q,
  part-zero (v + a) q,
  part-zero v q,
  pow-succ' (v + a) 0,
  pow-succ' v 0,
  pow-zero (v + a),
  pow-zero v,
) (flat v a q)
  where
    flat : (v a q : ℕ) → 1 * (q * 1) + (v + a) * 1 ≤ 1 * (q * 1) + v * 1 + a * (1 * 1)
    flat v a q = omega arith
grow-up (suc k) v a q =
    let Y' = part k (v + a) q in
    let X' = part (suc k) (v + a) q in
    let X = part (suc k) v q in
    subst (λ (z : ℕ). z ≤ part (suc (suc k)) v q + a * (suc (suc k) * X')) (sym (part-suc (suc k) (v + a) q))
    (subst (λ (z : ℕ). suc (suc k) * (q * X') + (v + a) ^ suc (suc k) ≤ z + a * (suc (suc k) * X'))
    (sym (part-suc (suc k) v q))
    (flat k a q X X' Y' ((v + a) ^ suc k) (v ^ suc (suc k)) ((v + a) ^ suc (suc k)) (part-suc k (v + a) q)
    (grow-up k v a q) (pow-up (suc k) v a)))
  where
    flat : (k a q X X' Y' W P P' : ℕ) → X' ≡ suc k * (q * Y') + W → X' ≤ X + a * (suc k * Y')
        → P' ≤ P + suc (suc k) * (a * W)
        → suc (suc k) * (q * X') + P' ≤ suc (suc k) * (q * X) + P + a * (suc (suc k) * X')
    flat k a q X X' Y' W P P' e h l =
        let m : suc (suc k) * q * X' ≤ suc (suc k) * q * (X + a * (suc k * Y')) = mul-le-mul_left (suc (suc k) * q) h in
        let f : a * (suc (suc k) * X') ≡ a * (suc (suc k) * (suc k * (q * Y') + W)) =
        ap (λ (z : ℕ). a * (suc (suc k) * z)) e in
        omega arith

grow-low : (k v a q : ℕ) → part (suc k) v q + a * (suc k * part k v q) ≤ part (suc k) (v + a) q
grow-low zero v a q =
    rw (
      part-suc 0 (v + a) q,
      part-suc 0 v q,
      part-zero (v + a) q,
      part-zero v q,
      pow-succ' (v + a) 0,
      pow-succ' v 0,
      pow-zero (v + a),
      pow-zero v,
    ) (flat v a q)
  where
    flat : (v a q : ℕ) → 1 * (q * 1) + v * 1 + a * (1 * 1) ≤ 1 * (q * 1) + (v + a) * 1
    flat v a q = omega arith
grow-low (suc k) v a q =
    let Y = part k v q in
    let X' = part (suc k) (v + a) q in
    let X = part (suc k) v q in
    subst (λ (z : ℕ). part (suc (suc k)) v q + a * (suc (suc k) * X) ≤ z) (sym (part-suc (suc k) (v + a) q))
    (subst (λ (z : ℕ). z + a * (suc (suc k) * X) ≤ suc (suc k) * (q * X') + (v + a) ^ suc (suc k))
    (sym (part-suc (suc k) v q))
    (flat k a q X X' Y (v ^ suc k) (v ^ suc (suc k)) ((v + a) ^ suc (suc k)) (part-suc k v q) (grow-low k v a q)
    (pow_low (suc k) v a)))
  where
    flat : (k a q X X' Y W P P' : ℕ) → X ≡ suc k * (q * Y) + W → X + a * (suc k * Y) ≤ X'
        → P + suc (suc k) * (a * W) ≤ P'
        → suc (suc k) * (q * X) + P + a * (suc (suc k) * X) ≤ suc (suc k) * (q * X') + P'
    flat k a q X X' Y W P P' e h l =
        let m : suc (suc k) * q * (X + a * (suc k * Y)) ≤ suc (suc k) * q * X' = mul-le-mul_left (suc (suc k) * q) h in
        let f : a * (suc (suc k) * X) ≡ a * (suc (suc k) * (suc k * (q * Y) + W)) =
        ap (λ (z : ℕ). a * (suc (suc k) * z)) e in
        omega arith

-- ---- from below
shrink : (k v a D : ℕ) → part k (v + a) (D + a) * D ≤ part k v (D + a) * (D + a)
shrink zero v a D = rw (part-zero (v + a) (D + a), part-zero v (D + a)) (omega arith)
shrink (suc k) v a D =
    let q = D + a in
    flat k a D (part (suc k) v q) (part (suc k) (v + a) q) (part k (v + a) q) ((v + a) ^ suc k) (part-suc k (v + a) q)
    (grow-up k v a q)
  where
    flat : (k a D X X' Y' W : ℕ) → X' ≡ suc k * ((D + a) * Y') + W → X' ≤ X + a * (suc k * Y') → X' * D ≤ X * (D + a)
    flat k a D X X' Y' W e h =
        let m : X' * (D + a) ≤ (X + a * (suc k * Y')) * (D + a) = mul-le-mul_right (D + a) h in
        let f : a * X' ≡ a * (suc k * ((D + a) * Y') + W) = ap (λ (z : ℕ). a * z) e in
        omega arith

part_none : (k q : ℕ) → part k 0 q ≤ scale k q
part_none zero q = rw (part-zero 0 q, scale-zero q) (le_refl 1)
part_none (suc k) q = rw (part-suc k 0 q, scale-suc k q, pow-succ' 0 k)
    (flat (suc k) q (part k 0 q) (scale k q) (0 ^ k) (part_none k q))
  where
    flat : (s q x y z : ℕ) → x ≤ y → s * (q * x) + 0 * z ≤ s * (q * y)
    flat s q x y z h =
        let m : s * q * x ≤ s * q * y = mul-le-mul_left (s * q) h in
        omega arith

steps_low : (K k a D : ℕ) → part K (k * a) (D + a) * D ^ k ≤ scale K (D + a) * (D + a) ^ k
steps_low K zero a D = subst (λ (z : ℕ). part K z (D + a) * D ^ 0 ≤ scale K (D + a) * (D + a) ^ 0) (sym (zero-mul a))
    (rw (pow-zero D, pow-zero (D + a)) (mul-le-mul_right 1 (part_none K (D + a))))
steps_low K (suc k) a D =
    subst (λ (z : ℕ). part K z (D + a) * D ^ suc k ≤ scale K (D + a) * (D + a) ^ suc k) (one k a)
    (rw (pow-succ' D k, pow-succ' (D + a) k) (flat (part K (k * a + a) (D + a)) (part K (k * a) (D + a))
    (scale K (D + a)) D (D + a) (D ^ k) ((D + a) ^ k) (shrink K (k * a) a D) (steps_low K k a D)))
  where
    one : (k a : ℕ) → k * a + a ≡ suc k * a
    one k a = omega arith

    flat : (X' X G D q p r : ℕ) → X' * D ≤ X * q → X * p ≤ G * r → X' * (D * p) ≤ G * (q * r)
    flat X' X G D q p r h l =
        let m : X' * D * p ≤ X * q * p = mul-le-mul_right p h in
        let n : X * p * q ≤ G * r * q = mul-le-mul_right q l in
        omega arith

-- ---- both numbers times z
part-times : (k z v q : ℕ) → part k (z * v) (z * q) ≡ z ^ k * part k v q
part-times zero z v q = rw (part-zero (z * v) (z * q), part-zero v q, pow-zero z)
part-times (suc k) z v q =
    part-suc k (z * v) (z * q) ∙ ap (λ (x : ℕ). suc k * (z * q * x) + (z * v) ^ suc k) (part-times k z v q)
    ∙ ap (λ (x : ℕ). suc k * (z * q * (z ^ k * part k v q)) + x)
    (mul-pow (suc k) z v ∙ ap (λ (x : ℕ). x * v ^ suc k) (pow-succ' z k))
    ∙ flat (suc k) z q (z ^ k) (part k v q) (v ^ suc k) ∙ ap (λ (x : ℕ). x * (suc k * (q * part k v q) + v ^ suc k))
    (sym (pow-succ' z k)) ∙ ap (λ (x : ℕ). z ^ suc k * x) (sym (part-suc k v q))
  where
    flat : (s z q Z Y W : ℕ) → s * (z * q * (Z * Y)) + z * Z * W ≡ z * Z * (s * (q * Y) + W)
    flat s z q Z Y W = omega arith

pub scale-times : (k z q : ℕ) → scale k (z * q) ≡ z ^ k * scale k q
scale-times zero z q = rw (scale-zero (z * q), scale-zero q, pow-zero z)
scale-times (suc k) z q =
    scale-suc k (z * q) ∙ ap (λ (x : ℕ). suc k * (z * q * x)) (scale-times k z q)
    ∙ flat (suc k) z q (z ^ k) (scale k q) ∙ ap (λ (x : ℕ). x * (suc k * (q * scale k q))) (sym (pow-succ' z k))
    ∙ ap (λ (x : ℕ). z ^ suc k * x) (sym (scale-suc k q))
  where
    flat : (s z q Z Y : ℕ) → s * (z * q * (Z * Y)) ≡ z * Z * (s * (q * Y))
    flat s z q Z Y = omega arith

part-mono : (k v w q : ℕ) → v ≤ w → part k v q ≤ part k w q
part-mono zero v w q h = rw (part-zero v q, part-zero w q) (le_refl 1)
part-mono (suc k) v w q h = rw (part-suc k v q, part-suc k w q) (flat (suc k) q (part k v q) (part k w q) (v ^ suc k)
    (w ^ suc k) (part-mono k v w q h) (pow-le-pow_left h (suc k)))
  where
    flat : (s q x y z u : ℕ) → x ≤ y → z ≤ u → s * (q * x) + z ≤ s * (q * y) + u
    flat s q x y z u h l =
        let m : s * q * x ≤ s * q * y = mul-le-mul_left (s * q) h in
        omega arith

-- the sums grow with the fraction: v / q ≤ w / r
part-grows : (k v q w r : ℕ) → 0 < q → v * r ≤ w * q → part k v q * scale k r ≤ part k w r * scale k q
part-grows k v q w r hq h =
    le_of_mul-le-mul_left
    (le_trans (le_of_eq (mul_left_comm (q ^ k) (part k v q) (scale k r) ∙ ap (λ (x : ℕ). part k v q * x)
    (sym (scale-times k q r) ∙ ap (λ (x : ℕ). scale k x) (mul_comm q r) ∙ scale-times k r q)
    ∙ e2 (part k v q) (r ^ k) (scale k q)))
    (le_trans (mul-le-mul_right (scale k q) g) (le_of_eq (mul_assoc (q ^ k) (part k w r) (scale k q)))))
    (one-le-pow k q hq)
  where
    e2 : (x R y : ℕ) → x * (R * y) ≡ R * x * y
    e2 x R y = omega arith

    cross : r * v ≤ q * w
    cross = omega arith

    g : r ^ k * part k v q ≤ q ^ k * part k w r
    g = le_trans (le_of_eq (sym (part-times k r v q))) (le_trans (part-mono k (r * v) (q * w) (r * q) cross)
        (le_of_eq (ap (λ (x : ℕ). part k (q * w) x) (mul_comm r q) ∙ part-times k q w r)))

-- THE LOWER BOUND: for t ≤ 1 and any m, S_K(t) ≤ (1 + t / m) e ^ t
pub below-series : (K m a c : ℕ) → 0 < m → 0 < c → a ≤ c → Below a c (part K a c * (c * m)) (scale K c * (c * m + a))
below-series K m a c hm hc h =
    (m, hm, flat (part K a c) (scale K c) (c * m) (c * m + a) ((c * m) ^ m) ((c * m + a) ^ m) both)
  where
    hq : 0 < c * m + a
    hq = le_trans (mul-pos hc hm) (le-add_right (c * m) a)

    near : a * (c * m + a) ≤ suc m * a * c
    near = let l : a * a ≤ a * c = mul-le-mul_left a h in flat a c m l
      where
        flat : (a c m : ℕ) → a * a ≤ a * c → a * (c * m + a) ≤ suc m * a * c
        flat a c m h = omega arith

    both : part K a c * (c * m * (c * m) ^ m) ≤ scale K c * ((c * m + a) * (c * m + a) ^ m)
    both =
        let s : part K (suc m * a) (c * m + a) * (c * m * (c * m) ^ m) ≤ scale K
        (c * m + a) * ((c * m + a) * (c * m + a) ^ m) =
        rw (pow-succ' (c * m) m, pow-succ' (c * m + a) m) at (steps_low K (suc m) a (c * m)) in
        join2 (part K a c) (scale K c) (part K (suc m * a) (c * m + a)) (scale K (c * m + a)) (c * m * (c * m) ^ m)
        ((c * m + a) * (c * m + a) ^ m) (scale-pos K (c * m + a) hq)
        (part-grows K a c (suc m * a) (c * m + a) hc near) s
      where
        join2 : (X G X' G' p r : ℕ) → 0 < G' → X * G' ≤ X' * G → X' * p ≤ G' * r → X * p ≤ G * r
        join2 X G X' G' p r z h k = le_of_mul-le-mul_left (flat2 X G X' G' p r h k) z
          where
            flat2 : (X G X' G' p r : ℕ) → X * G' ≤ X' * G → X' * p ≤ G' * r → G' * (X * p) ≤ G' * (G * r)
            flat2 X G X' G' p r h k =
                let m : X * G' * p ≤ X' * G * p = mul-le-mul_right p h in
                let n : X' * p * G ≤ G' * r * G = mul-le-mul_right G k in
                omega arith

    flat : (X G u w p r : ℕ) → X * (u * p) ≤ G * (w * r) → X * u * p ≤ G * w * r
    flat X G u w p r h = omega arith

-- ---- from above
unfoldable pub over : ℕ → ℕ → ℕ → ℕ
over K v q = part (suc K) v q + v ^ suc K

over-step : (K v a q : ℕ) → 2 * v ≤ suc K * q → over K v q * (q + a) ≤ over K (v + a) q * q
unfolding over
over-step K v a q h =
    subst (λ (z : ℕ). (part (suc K) v q + z) * (q + a) ≤ (part (suc K) (v + a) q + (v + a) ^ suc K) * q)
    (sym (pow-succ' v K))
    (flat (suc K) v a q (part (suc K) v q) (part (suc K) (v + a) q) (part K v q) (v ^ K) ((v + a) ^ suc K)
    (part-suc K v q ∙ ap (λ (z : ℕ). suc K * (q * part K v q) + z) (pow-succ' v K)) (grow-low K v a q)
    (rw (pow-succ' v K) at (pow_low K v a)) h)
  where
    flat : (s v a q X X' Y U W : ℕ) → X ≡ s * (q * Y) + v * U → X + a * (s * Y) ≤ X' → v * U + s * (a * U) ≤ W
        → 2 * v ≤ s * q → (X + v * U) * (q + a) ≤ (X' + W) * q
    flat s v a q X X' Y U W e h k l =
        let m1 : (X + a * (s * Y)) * q ≤ X' * q = mul-le-mul_right q h in
        let m2 : (v * U + s * (a * U)) * q ≤ W * q = mul-le-mul_right q k in
        let m3 : 2 * v * (a * U) ≤ s * q * (a * U) = mul-le-mul_right (a * U) l in
        let f : a * X ≡ a * (s * (q * Y) + v * U) = ap (λ (z : ℕ). a * z) e in
        omega arith

over_none : (K q : ℕ) → scale K q ≤ part K 0 q
over_none zero q = rw (part-zero 0 q, scale-zero q) (le_refl 1)
over_none (suc k) q = rw (part-suc k 0 q, scale-suc k q, pow-succ' 0 k)
    (flat (suc k) q (part k 0 q) (scale k q) (0 ^ k) (over_none k q))
  where
    flat : (s q x y z : ℕ) → y ≤ x → s * (q * y) ≤ s * (q * x) + 0 * z
    flat s q x y z h =
        let m : s * q * y ≤ s * q * x = mul-le-mul_left (s * q) h in
        omega arith

over-begin : (K q : ℕ) → 1 * scale (suc K) q ≤ over K 0 q * 1
unfolding over
over-begin K q = flat (scale (suc K) q) (part (suc K) 0 q) (0 ^ suc K) (over_none (suc K) q)
  where
    flat : (x y z : ℕ) → x ≤ y → 1 * x ≤ (y + z) * 1
    flat x y z h = omega arith

steps_up : (K k a q : ℕ) → 2 * (k * a) ≤ suc K * q → (q + a) ^ k * scale (suc K) q ≤ over K (k * a) q * q ^ k
steps_up K zero a q h = subst (λ (z : ℕ). (q + a) ^ 0 * scale (suc K) q ≤ over K z q * q ^ 0) (sym (zero-mul a))
    (rw (pow-zero (q + a), pow-zero q) (over-begin K q))
steps_up K (suc k) a q h =
    subst (λ (z : ℕ). (q + a) ^ suc k * scale (suc K) q ≤ over K z q * q ^ suc k) (one k a)
    (rw (pow-succ' (q + a) k, pow-succ' q k) (flat (over K (k * a + a) q) (over K (k * a) q) (scale (suc K) q) (q + a)
    q ((q + a) ^ k) (q ^ k) (over-step K (k * a) a q (less k a (suc K * q) h))
    (steps_up K k a q (less k a (suc K * q) h))))
  where
    one : (k a : ℕ) → k * a + a ≡ suc k * a
    one k a = omega arith

    less : (k a z : ℕ) → 2 * (suc k * a) ≤ z → 2 * (k * a) ≤ z
    less k a z h = omega arith

    flat : (X' X G r q p u : ℕ) → X * r ≤ X' * q → p * G ≤ X * u → r * p * G ≤ X' * (q * u)
    flat X' X G r q p u h l =
        let m : X * r * u ≤ X' * q * u = mul-le-mul_right u h in
        let n : p * G * r ≤ X * u * r = mul-le-mul_right r l in
        omega arith

over-times : (K z v q : ℕ) → over K (z * v) (z * q) ≡ z ^ suc K * over K v q
unfolding over
over-times K z v q = ap (λ (x : ℕ). x + (z * v) ^ suc K) (part-times (suc K) z v q)
    ∙ ap (λ (x : ℕ). z ^ suc K * part (suc K) v q + x) (mul-pow (suc K) z v) ∙ flat (z ^ suc K) (part (suc K) v q)
    (v ^ suc K)
  where
    flat : (Z x y : ℕ) → Z * x + Z * y ≡ Z * (x + y)
    flat Z x y = omega arith

-- THE UPPER BOUND: for t ≤ (K + 1) / 2, e ^ t is at most S_(K+1)(t) with its last term twice
pub above-series : (K a c : ℕ) → 2 * a ≤ suc K * c → Above a c (over K a c) (scale (suc K) c)
above-series K a c h n hn =
    let s : (c * n + a) ^ n * scale (suc K) (c * n) ≤ over K (n * a) (c * n) * (c * n) ^ n =
    steps_up K n a (c * n) (wide n a c (suc K) h) in
    let s2 : (c * n + a) ^ n * (n ^ suc K * scale (suc K) c) ≤ n ^ suc K * over K a c * (c * n) ^ n =
    subst (λ (z : ℕ). (c * n + a) ^ n * z ≤ n ^ suc K * over K a c * (c * n) ^ n)
    (ap (λ (x : ℕ). scale (suc K) x) (mul_comm c n) ∙ scale-times (suc K) n c)
    (subst (λ (z : ℕ). (c * n + a) ^ n * scale (suc K) (c * n) ≤ z * (c * n) ^ n)
    (ap (λ (x : ℕ). over K (n * a) x) (mul_comm c n) ∙ over-times K n a c) s) in
    le_of_mul-le-mul_left (flat ((c * n + a) ^ n) (n ^ suc K) (scale (suc K) c) (over K a c) ((c * n) ^ n) s2)
    (one-le-pow (suc K) n hn)
  where
    wide : (n a c s : ℕ) → 2 * a ≤ s * c → 2 * (n * a) ≤ s * (c * n)
    wide n a c s h =
        let m : 2 * a * n ≤ s * c * n = mul-le-mul_right n h in
        omega arith

    flat : (p Z G X u : ℕ) → p * (Z * G) ≤ Z * X * u → Z * (p * G) ≤ Z * (X * u)
    flat p Z G X u h = omega arith
