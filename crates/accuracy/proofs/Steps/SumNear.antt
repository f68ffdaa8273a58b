-- The core of step 7: for a row of the table with T (1 + D) near e ^ s, and |r| ≤ 0.011, SumRounded's n over y,
-- times T, is e ^ (s + r) up to 0.1345 * 2 ^ -53. Assumes nothing.
use Rattle.accuracy.proofs.Prelude.{◌≡◌, refl, sym, ap, ◌∙◌, ℕ, suc, ◌+◌, ◌-◌, ◌*◌, ◌^◌, ◌≤◌, ◌<◌, arith, lit≤}
use Rattle.accuracy.proofs.Prelude.{lit<}
use native.Mathlib.Nat.{le_trans, le_of_eq, mul-le-mul_right, mul-le-mul_left, mul_assoc, mul-pos}
use native.Mathlib.Nat.{le_of_mul-le-mul_left, mul_right_comm}
use lib.Ieee.{Float}
use Rattle.accuracy.proofs.Rounding.AnyFormat.{Close}
use Rattle.accuracy.proofs.Rounding.Binary64.{L, e, L-pos, small-e}
use Rattle.accuracy.proofs.Steps.PolynomialNear.{fine}
use Rattle.accuracy.proofs.Steps.TableNear.{good}
use Rattle.accuracy.proofs.Euler.AnySign.{Nearly, exp-mul, exp-weaken}
use Rattle.accuracy.proofs.Steps.TailErrors.{close-scale, close-weak}
use Rattle.accuracy.proofs.Steps.SumRounded.{Seventh}
use Rattle.accuracy.proofs.Steps.TailNear.{Poly}
use lib.Ieee.Positive.{first_pos}
use Rattle.accuracy.proofs.Steps.TailOperations.{T}

-- 1 / last is 0.1345 * 2 ^ -53
abbrev pub last : ℕ
last = 119 * 2 ^ 49

-- 1 / part is 0.0715 * 2 ^ -53
abbrev part : ℕ
part = 7 * 2 ^ 54

w-L : L ≡ 2 ^ 59 * (2 ^ 21 * e)
unfolding L e
w-L = refl

-- ---- n, y and K
near-A : (T L Y K n dp dm rp rm H w z v : ℕ) → Close (n * L + Y * (dm + rm)) (Y * (L + dp + rp + H)) (L * w + Y * z)
    → Close (T * (L + rp + H)) (K + T * rm) (T * v) → L * w ≤ Y * z
    → Close (T * (n * L) + T * (Y * dm)) (Y * K + T * (Y * dp)) (T * (Y * (2 * z + v)))
near-A T L Y K n dp dm rp rm H w z v p q l =
    let a = close-scale T (n * L + Y * (dm + rm)) (Y * (L + dp + rp + H)) (L * w + Y * z) p in
    let b = close-scale Y (T * (L + rp + H)) (K + T * rm) (T * v) q in
    let m : T * (L * w) ≤ T * (Y * z) = mul-le-mul_left T l in
    (one T L Y K n dp dm rp rm H w z v a.0 b.0 m, two T L Y K n dp dm rp rm H w z v a.1 b.1 m)
  where
    one : (T L Y K n dp dm rp rm H w z v : ℕ)
        → T * (n * L + Y * (dm + rm)) ≤ T * (Y * (L + dp + rp + H)) + T * (L * w + Y * z)
        → Y * (T * (L + rp + H)) ≤ Y * (K + T * rm) + Y * (T * v) → T * (L * w) ≤ T * (Y * z)
        → T * (n * L) + T * (Y * dm) ≤ Y * K + T * (Y * dp) + T * (Y * (2 * z + v))
    one T L Y K n dp dm rp rm H w z v p q l = omega arith

    two : (T L Y K n dp dm rp rm H w z v : ℕ)
        → T * (Y * (L + dp + rp + H)) ≤ T * (n * L + Y * (dm + rm)) + T * (L * w + Y * z)
        → Y * (K + T * rm) ≤ Y * (T * (L + rp + H)) + Y * (T * v) → T * (L * w) ≤ T * (Y * z)
        → Y * K + T * (Y * dp) ≤ T * (n * L) + T * (Y * dm) + T * (Y * (2 * z + v))
    two T L Y K n dp dm rp rm H w z v p q l = omega arith

-- K is T L up to a 60th
near-K : (T L K rp rm H v : ℕ) → Close (T * (L + rp + H)) (K + T * rm) (T * v) → 1000 * rp ≤ 11 * L
    → 1000 * rm ≤ 11 * L → 4000 * H ≤ L → 1048576 * v ≤ L → (60 * K ≤ 61 * (T * L)) × (60 * (T * L) ≤ 61 * K)
near-K T L K rp rm H v q a b c d =
    let a' : T * (1000 * rp) ≤ T * (11 * L) = mul-le-mul_left T a in
    let b' : T * (1000 * rm) ≤ T * (11 * L) = mul-le-mul_left T b in
    let c' : T * (4000 * H) ≤ T * L = mul-le-mul_left T c in
    let d' : T * (1048576 * v) ≤ T * L = mul-le-mul_left T d in
    (one T L K rp rm H v q.1 a' c' d', two T L K rp rm H v q.0 b' d')
  where
    one : (T L K rp rm H v : ℕ) → K + T * rm ≤ T * (L + rp + H) + T * v → T * (1000 * rp) ≤ T * (11 * L)
        → T * (4000 * H) ≤ T * L → T * (1048576 * v) ≤ T * L → 60 * K ≤ 61 * (T * L)
    one T L K rp rm H v q a c d = omega arith

    two : (T L K rp rm H v : ℕ) → T * (L + rp + H) ≤ K + T * rm + T * v → T * (1000 * rm) ≤ T * (11 * L)
        → T * (1048576 * v) ≤ T * L → 60 * (T * L) ≤ 61 * K
    two T L K rp rm H v q b d = omega arith

-- T n L L against Y K (1 + D), D = dp - dm. X is T L
near-C : (X L Y K M dp dm D z u : ℕ) → D + dm ≡ L + dp
    → Close (M + X * (Y * dm)) (Y * K * L + X * (Y * dp)) (X * (Y * z)) → 60 * K ≤ 61 * X → 60 * X ≤ 61 * K
    → dp ≤ 30 * u → dm ≤ 30 * u → Close M (Y * K * D) (X * (Y * (z + u)))
near-C X L Y K M dp dm D z u h_d c k1 k2 a b =
    let d : Y * K * (D + dm) ≡ Y * K * (L + dp) = ap (λ (x : ℕ). Y * K * x) h_d in
    let p1 : 60 * X * (Y * dp) ≤ 61 * K * (Y * dp) = mul-le-mul_right (Y * dp) k2 in
    let p2 : 60 * K * (Y * dm) ≤ 61 * X * (Y * dm) = mul-le-mul_right (Y * dm) k1 in
    let p3 : 60 * K * (Y * dp) ≤ 61 * X * (Y * dp) = mul-le-mul_right (Y * dp) k1 in
    let p4 : 60 * X * (Y * dm) ≤ 61 * K * (Y * dm) = mul-le-mul_right (Y * dm) k2 in
    let u1 : X * Y * dp ≤ X * Y * (30 * u) = mul-le-mul_left (X * Y) a in
    let u2 : X * Y * dm ≤ X * Y * (30 * u) = mul-le-mul_left (X * Y) b in
    (one X L Y K M dp dm D z u d c.0 p1 p2 p3 u1 u2, two X L Y K M dp dm D z u d c.1 p3 p4 p2 u1 u2)
  where
    one : (X L Y K M dp dm D z u : ℕ) → Y * K * (D + dm) ≡ Y * K * (L + dp)
        → M + X * (Y * dm) ≤ Y * K * L + X * (Y * dp) + X * (Y * z) → 60 * X * (Y * dp) ≤ 61 * K * (Y * dp)
        → 60 * K * (Y * dm) ≤ 61 * X * (Y * dm) → 60 * K * (Y * dp) ≤ 61 * X * (Y * dp)
        → X * Y * dp ≤ X * Y * (30 * u) → X * Y * dm ≤ X * Y * (30 * u) → M ≤ Y * K * D + X * (Y * (z + u))
    one X L Y K M dp dm D z u d c p1 p2 p3 u1 u2 = omega arith

    two : (X L Y K M dp dm D z u : ℕ) → Y * K * (D + dm) ≡ Y * K * (L + dp)
        → Y * K * L + X * (Y * dp) ≤ M + X * (Y * dm) + X * (Y * z) → 60 * K * (Y * dp) ≤ 61 * X * (Y * dp)
        → 60 * X * (Y * dm) ≤ 61 * K * (Y * dm) → 60 * K * (Y * dm) ≤ 61 * X * (Y * dm)
        → X * Y * dp ≤ X * Y * (30 * u) → X * Y * dm ≤ X * Y * (30 * u) → Y * K * D ≤ M + X * (Y * (z + u))
    two X L Y K M dp dm D z u d c p3 p4 p2 u1 u2 = omega arith

-- an error of a little less than 1 / part of X Y L is at most 1 / part of Y K D
relative : (X L Y K D z : ℕ) → 51 * (part * z) ≤ 50 * L → 60 * X ≤ 61 * K → 1000 * L ≤ 1001 * D
    → part * (X * (Y * z)) ≤ Y * K * D
relative X L Y K D z h k l =
    let a : 51 * (part * z) * (X * Y) ≤ 50 * L * (X * Y) = mul-le-mul_right (X * Y) h in
    let b : 60 * X * (Y * L) ≤ 61 * K * (Y * L) = mul-le-mul_right (Y * L) k in
    let c : Y * K * (1000 * L) ≤ Y * K * (1001 * D) = mul-le-mul_left (Y * K) l in
    flat X L Y K D z a b c
  where
    flat : (X L Y K D z : ℕ) → 51 * (7 * 2 ^ 54 * z) * (X * Y) ≤ 50 * L * (X * Y)
        → 60 * X * (Y * L) ≤ 61 * K * (Y * L) → Y * K * (1000 * L) ≤ Y * K * (1001 * D)
        → 7 * 2 ^ 54 * (X * (Y * z)) ≤ Y * K * D
    flat X L Y K D z a b c = omega arith

-- the error of n, in e's: 2 ^ 22 of the two sums and the product, 2 ^ 16 of the polynomial, 9 * 2 ^ 19 of d's product
-- with r + h
z-part : 51 * (part * (8978432 * e)) ≤ 50 * L
unfolding L e
z-part = lit≤ tt

-- ---- n and the exact value: M is n T L L, V is Y K D
upper-number : (2 ^ 92 + 1) * (2 ^ 57 + 1) * last * part ≤ (last + 1) * (2 ^ 92 * 2 ^ 57) * (part - 1)
upper-number = lit≤ tt

lower-number : (2 ^ 92 + 1) * (2 ^ 57 + 1) * last * (part + 1) ≤ (last + 1) * (2 ^ 92 * 2 ^ 57) * part
lower-number = lit≤ tt

-- a / b ≤ c / d by way of two numbers
through : (a b x y p q : ℕ) → 0 < q → x * p ≤ y * q → a * q ≤ b * p → a * x ≤ b * y
through a b x y p q hq h k = le_of_mul-le-mul_left
    (le_trans (le_of_eq (e1 a x q))
    (le_trans (mul-le-mul_right x k)
    (le_trans (le_of_eq (e2 b p x)) (le_trans (mul-le-mul_left b h) (le_of_eq (e3 b y q)))))) hq
  where
    e1 : (a x q : ℕ) → q * (a * x) ≡ a * q * x
    e1 a x q = omega arith

    e2 : (b p x : ℕ) → b * p * x ≡ b * (x * p)
    e2 b p x = omega arith

    e3 : (b y q : ℕ) → b * (y * q) ≡ q * (b * y)
    e3 b y q = omega arith

fin-above : (W td L B tn D Y K s_g s_f la g T sl G F : ℕ) → 0 < L → W * td * L ≡ B * tn * D
    → Y * K * D * (s_g * s_f * la) ≤ g * (T * L * L) * (sl * (G * F))
    → W * s_g * (K * s_f) * (td * Y * la) ≤ tn * g * sl * (B * G * (T * L * F))
fin-above W td L B tn D Y K s_g s_f la g T sl G F h_l row h =
    le_of_mul-le-mul_left
    (le_trans (le_of_eq (e1 W td L Y K s_g s_f la ∙ ap (λ (x : ℕ). x * (Y * K * (s_g * s_f * la))) row
    ∙ e2 B tn D Y K (s_g * s_f * la))) (le_trans (mul-le-mul_left (B * tn) h) (le_of_eq (e3 B tn g T L sl G F)))) h_l
  where
    e1 : (W td L Y K s_g s_f la : ℕ) → L * (W * s_g * (K * s_f) * (td * Y * la)) ≡ W * td * L * (Y * K * (s_g * s_f * la))
    e1 W td L Y K s_g s_f la = omega arith

    e2 : (B tn D Y K c : ℕ) → B * tn * D * (Y * K * c) ≡ B * tn * (Y * K * D * c)
    e2 B tn D Y K c = omega arith

    e3 : (B tn g T L sl G F : ℕ)
        → B * tn * (g * (T * L * L) * (sl * (G * F))) ≡ L * (tn * g * sl * (B * G * (T * L * F)))
    e3 B tn g T L sl G F = omega arith

fin-below : (W td L B tn D Y K s_g s_f la g T sl G F : ℕ) → 0 < L → W * td * L ≡ B * tn * D
    → g * (T * L * L) * (s_g * s_f * la) ≤ Y * K * D * (sl * (G * F))
    → B * s_g * (T * L * s_f) * (tn * g * la) ≤ td * Y * sl * (W * G * (K * F))
fin-below W td L B tn D Y K s_g s_f la g T sl G F h_l row h =
    le_of_mul-le-mul_left
    (le_trans (le_of_eq (e1 B tn g T L s_g s_f la))
    (le_trans (mul-le-mul_left (B * tn) h)
    (le_of_eq (e2 B tn D Y K (sl * (G * F)) ∙ ap (λ (x : ℕ). x * (Y * K * (sl * (G * F)))) (sym row)
    ∙ e3 W td L Y K sl G F)))) h_l
  where
    e1 : (B tn g T L s_g s_f la : ℕ)
        → L * (B * s_g * (T * L * s_f) * (tn * g * la)) ≡ B * tn * (g * (T * L * L) * (s_g * s_f * la))
    e1 B tn g T L s_g s_f la = omega arith

    e2 : (B tn D Y K c : ℕ) → B * tn * (Y * K * D * c) ≡ B * tn * D * (Y * K * c)
    e2 B tn D Y K c = omega arith

    e3 : (W td L Y K sl G F : ℕ) → W * td * L * (Y * K * (sl * (G * F))) ≡ L * (td * Y * sl * (W * G * (K * F)))
    e3 W td L Y K sl G F = omega arith

module _ (v h : Float) (Y dp dm rp rm w D W B tn td sp : ℕ) (p : Poly h rp rm) (q : Seventh v Y dp dm rp rm p.H w)
    (y-low : 2 ^ 59 * w ≤ Y) (w-pos : 0 < w) (d_small : (2 ^ 53 * dp ≤ L) × (2 ^ 53 * dm ≤ L)) (h_d : D + dm ≡ L + dp)
    (r_small : (1000 * rp ≤ 11 * L) × (1000 * rm ≤ 11 * L)) (row : W * td * L ≡ B * tn * D) (W-pos : 0 < W)
    (B-pos : 0 < B) (tn-pos : 0 < tn) (td-pos : 0 < td)
    (table : Nearly sp 0 L W B good) where
  Ks : (60 * p.K ≤ 61 * (T * L)) × (60 * (T * L) ≤ 61 * p.K)
  Ks = near-K T L p.K rp rm p.H (2 ^ 16 * e) p.near r_small.0 r_small.1 p.small (small-e 16 (lit≤ tt))

  Lw : L * w ≤ Y * (2 ^ 21 * e)
  Lw = le_trans (le_of_eq (ap (λ (x : ℕ). x * w) w-L ∙ mul_right_comm (2 ^ 59) (2 ^ 21 * e) w))
      (mul-le-mul_right (2 ^ 21 * e) y-low)

  M : ℕ
  M = q.n * (T * L * L)

  step_a : Close (T * (q.n * L) + T * (Y * dm)) (Y * p.K + T * (Y * dp)) (T * (Y * (2 * (2 ^ 21 * e) + 2 ^ 16 * e)))
  step_a = near-A T L Y p.K q.n dp dm rp rm p.H w (2 ^ 21 * e) (2 ^ 16 * e) q.near p.near Lw

  step_c : Close (q.n * (T * L * L)) (Y * p.K * D) (T * L * (Y * (2 * (2 ^ 21 * e) + 2 ^ 16 * e + 9 * 2 ^ 19 * e)))
  step_c = near-C (T * L) L Y p.K (q.n * (T * L * L)) dp dm D (2 * (2 ^ 21 * e) + 2 ^ 16 * e) (9 * 2 ^ 19 * e) h_d
      (turn T L Y p.K q.n dp dm (2 * (2 ^ 21 * e) + 2 ^ 16 * e)
      (close-scale L (T * (q.n * L) + T * (Y * dm)) (Y * p.K + T * (Y * dp))
      (T * (Y * (2 * (2 ^ 21 * e) + 2 ^ 16 * e))) step_a)) Ks.0 Ks.1 (small dp d_small.0)
      (small dm d_small.1)
    where
      turn : (T L Y K n dp dm z : ℕ)
          → Close (L * (T * (n * L) + T * (Y * dm))) (L * (Y * K + T * (Y * dp))) (L * (T * (Y * z)))
          → Close (n * (T * L * L) + T * L * (Y * dm)) (Y * K * L + T * L * (Y * dp)) (T * L * (Y * z))
      turn T L Y K n dp dm z c = (one T L Y K n dp dm z c.0, two T L Y K n dp dm z c.1)
        where
          one : (T L Y K n dp dm z : ℕ)
              → L * (T * (n * L) + T * (Y * dm)) ≤ L * (Y * K + T * (Y * dp)) + L * (T * (Y * z))
              → n * (T * L * L) + T * L * (Y * dm) ≤ Y * K * L + T * L * (Y * dp) + T * L * (Y * z)
          one T L Y K n dp dm z c = omega arith

          two : (T L Y K n dp dm z : ℕ)
              → L * (Y * K + T * (Y * dp)) ≤ L * (T * (n * L) + T * (Y * dm)) + L * (T * (Y * z))
              → Y * K * L + T * L * (Y * dp) ≤ n * (T * L * L) + T * L * (Y * dm) + T * L * (Y * z)
          two T L Y K n dp dm z c = omega arith

      l27 : L ≡ 2 ^ 53 * (2 ^ 27 * e)
      l27 = w-L ∙ flat e
        where
          flat : (e : ℕ) → 2 ^ 59 * (2 ^ 21 * e) ≡ 2 ^ 53 * (2 ^ 27 * e)
          flat e = omega arith

      small : (d : ℕ) → 2 ^ 53 * d ≤ L → d ≤ 30 * (9 * 2 ^ 19 * e)
      small d h = go d e (le_of_mul-le-mul_left (le_trans h (le_of_eq l27)) (lit< {m = 0} {n = 2 ^ 53} tt))
        where
          go : (d e : ℕ) → d ≤ 2 ^ 27 * e → d ≤ 30 * (9 * 2 ^ 19 * e)
          go d e h = omega arith

  D-low : 1000 * L ≤ 1001 * D
  D-low = go L D dp dm d_small.1 h_d
    where
      go : (L D dp dm : ℕ) → 2 ^ 53 * dm ≤ L → D + dm ≡ L + dp → 1000 * L ≤ 1001 * D
      go L D dp dm h k = omega arith

  step_d : part * (T * L * (Y * (8978432 * e))) ≤ Y * p.K * D
  step_d = relative (T * L) L Y p.K D (8978432 * e) z-part Ks.1 D-low

  close-M : Close (q.n * (T * L * L)) (Y * p.K * D) (T * L * (Y * (8978432 * e)))
  close-M = close-weak (q.n * (T * L * L)) (Y * p.K * D)
      (T * L * (Y * (2 * (2 ^ 21 * e) + 2 ^ 16 * e + 9 * 2 ^ 19 * e))) (T * L * (Y * (8978432 * e)))
      (mul-le-mul_left (T * L) (mul-le-mul_left Y (flat e))) step_c
    where
      flat : (e : ℕ) → 2 * (2 ^ 21 * e) + 2 ^ 16 * e + 9 * 2 ^ 19 * e ≤ 8978432 * e
      flat e = omega arith

  low : Y * p.K * D * (part - 1) ≤ q.n * (T * L * L) * part
  low = flat (Y * p.K * D) (q.n * (T * L * L)) (T * L * (Y * (8978432 * e))) step_d close-M.1
    where
      flat : (v m x : ℕ) → 7 * 2 ^ 54 * x ≤ v → v ≤ m + x → v * (7 * 2 ^ 54 - 1) ≤ m * (7 * 2 ^ 54)
      flat v m x h k = omega arith

  high : q.n * (T * L * L) * part ≤ Y * p.K * D * (part + 1)
  high = flat (Y * p.K * D) (q.n * (T * L * L)) (T * L * (Y * (8978432 * e))) step_d close-M.0
    where
      flat : (v m x : ℕ) → 7 * 2 ^ 54 * x ≤ v → m ≤ v + x → m * (7 * 2 ^ 54) ≤ v * (7 * 2 ^ 54 + 1)
      flat v m x h k = omega arith

  T-pos : 0 < T
  T-pos = mul-pos (mul-pos (mul-pos (lit< tt) L-pos) (mul-pos L-pos L-pos)) (mul-pos L-pos L-pos)

  TL-pos : 0 < T * L
  TL-pos = mul-pos T-pos L-pos

  K-pos : 0 < p.K
  K-pos = go (T * L) p.K TL-pos Ks.1
    where
      go : (x k : ℕ) → 0 < x → 60 * x ≤ 61 * k → 0 < k
      go x k h l = omega arith

  up-all : Y * p.K * D * (suc good * suc fine * last) ≤ q.n * (T * L * L) * (suc last * (good * fine))
  up-all = through (Y * p.K * D) (q.n * (T * L * L)) (suc good * suc fine * last) (suc last * (good * fine)) part
      (part - 1) (lit< tt) upper-number low

  down-all : q.n * (T * L * L) * (suc good * suc fine * last) ≤ Y * p.K * D * (suc last * (good * fine))
  down-all = through (q.n * (T * L * L)) (Y * p.K * D) (suc good * suc fine * last) (suc last * (good * fine))
      (part + 1) part (lit< tt) lower-number high

  near-core : Nearly (sp + rp) (0 + rm) L (tn * q.n) (td * Y) last
  near-core = record {
    above = exp-weaken (sp + rp) (0 + rm) L (W * suc good * (p.K * suc fine)) (B * good * (T * L * fine))
        (tn * q.n * suc last) (td * Y * last)
        (mul-pos (mul-pos W-pos (lit< tt)) (mul-pos K-pos (lit< tt)))
        (mul-pos (mul-pos B-pos (lit< tt)) (mul-pos TL-pos (lit< tt)))
        (fin-above W td L B tn D Y p.K (suc good) (suc fine) last q.n T (suc last) good fine L-pos row up-all)
        (exp-mul sp 0 rp rm L (W * suc good) (B * good) (p.K * suc fine) (T * L * fine) L-pos table.above
        p.exp.above);
    below = exp-weaken (0 + rm) (sp + rp) L (B * suc good * (T * L * suc fine)) (W * good * (p.K * fine))
        (td * Y * suc last) (tn * q.n * last)
        (mul-pos (mul-pos B-pos (lit< tt)) (mul-pos TL-pos (lit< tt)))
        (mul-pos (mul-pos W-pos (lit< tt)) (mul-pos K-pos (lit< tt)))
        (fin-below W td L B tn D Y p.K (suc good) (suc fine) last q.n T (suc last) good fine L-pos row down-all)
        (exp-mul 0 sp rm rp L (B * suc good) (W * good) (T * L * suc fine) (p.K * fine) L-pos table.below
        p.exp.below);
  }

  n_pos : 0 < q.n
  n_pos = first_pos q.n (T * L * L * (suc last * (good * fine)))
      (le_trans (mul-pos (mul-pos (mul-pos y-pos K-pos) D-pos) (lit< {m = 0} {n = suc good * suc fine * last} tt))
      (le_trans up-all (le_of_eq (mul_assoc q.n (T * L * L) (suc last * (good * fine))))))
    where
      y-pos : 0 < Y
      y-pos = go Y w w-pos y-low
        where
          go : (Y w : ℕ) → 0 < w → 2 ^ 59 * w ≤ Y → 0 < Y
          go Y w h k = omega arith

      D-pos : 0 < D
      D-pos = go L D L-pos D-low
        where
          go : (L D : ℕ) → 0 < L → 1000 * L ≤ 1001 * D → 0 < D
          go L D h k = omega arith

  -- THE CORE
  pub sum_near : Nearly (sp + rp) (0 + rm) L (tn * q.n) (td * Y) last × (0 < q.n)
  sum_near = (near-core, n_pos)
