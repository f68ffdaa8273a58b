-- Steps 1 and 3, for |x| ≤ 770: t = x PER_STEP + SHIFT is a whole number, k = t - SHIFT is exact, and x is k Λ up to
-- 0.0109.
-- Assumes nothing.
use Rattle.accuracy.proofs.Prelude.{◌≡◌, refl, sym, ap, ◌∙◌, subst, Bool, true, false, ℕ, ◌+◌, ◌-◌, ◌*◌, ◌^◌}
use Rattle.accuracy.proofs.Prelude.{◌≤◌, ◌<◌, arith, T, lit≤, lit<}
use native.Mathlib.Nat.{le_trans, le_of_eq, lt_of_le_of_lt, mul-le-mul_right, mul-le-mul_left, mul-le-mul, mul_assoc}
use native.Mathlib.Nat.{mul-one, le_of_mul-le-mul_left, add-sub_of_le, one-mul, le_of_mul-le-mul_right}
use native.Mathlib.Nat.{mul_right_comm}
use lib.IntN.{ℤ}
use lib.Ieee.{Float, nan, inf, fin, binary64, round, add, sub, mul, neg, of_bits, fits, up, down}
use lib.Ieee.Exact.{round_exact}
use lib.Ieee.Fits.{add-fits}
use Rattle.routines.specs.Exp.{PER_STEP, SHIFT}
use Rattle.accuracy.proofs.Rounding.AnyFormat.{Close, Sg, plus, less-of, add_is, neg-val, sub-opened, plus-le}
use Rattle.accuracy.proofs.Rounding.AnyFormat.{less-le, unlike-plus}
use Rattle.accuracy.proofs.Rounding.Binary64.{L, e, L-pos, Is, power, pair_of, mul-within, add-within}
use Rattle.accuracy.proofs.Rounding.Binary64.{product-below, small-e}
use Rattle.accuracy.proofs.Rounding.Binary64.{halves}
use Rattle.accuracy.proofs.Steps.Reduction.{hi, lo, sign-close}
use Rattle.routines.proofs.Sizes.{large}

-- SHIFT is a whole number
abbrev pub N0 : ℕ
N0 = 6755399441121216

unfoldable pub inv : ℕ
inv = 6497320848556798 * 2 ^ 1027

pub inv-is : Is PER_STEP false inv
unfolding L inv of_bits
inv-is = (refl, refl)

pub shift_is : Is SHIFT false (N0 * L)
unfolding L of_bits
shift_is = (refl, refl)

pub inv-size : (46 * L ≤ inv) × (inv ≤ 47 * L)
unfolding L inv
inv-size = (lit≤ tt, lit≤ tt)

-- a value from 2^52 on is whole
whole : (x : Float) (G : ℕ) → T (fits binary64 x) → Is x false G → 2 ^ 52 * L ≤ G → (N : ℕ) × (G ≡ N * L)
whole nan G f v h = absurd v
whole (inf s) G f v h = absurd v
whole (fin s m e) G f v h =
    let k = large s m e f
    (le_of_mul-le-mul_right (le_trans (le_of_eq (mul_right_comm (2 ^ 52) (down e) L))
    (le_trans (mul-le-mul_right (down e) h) (le_of_eq (sym v.1)))) L-pos) in
    (m * 2 ^ k.0, sym (mul-one G) ∙ sym (subst (λ (z : ℤ). m * up z * L ≡ G * down z) k.1 v.1))

-- ---- closed numbers

X79 : 2 ^ 54 * (2 ^ 79 * e) ≡ 2 ^ 53 * L
unfolding L e
X79 = refl

q-number : 770 * 47 * L < 1 * 1 * (2 ^ 54 * (2 ^ 42 * e))
unfolding L e
q-number = lit< tt

-- the step times PER_STEP is nearly 1
step-inv : ((2 ^ 28) * ((hi + lo) * inv) ≤ (2 ^ 28 + 1) * (L * L))
    × ((2 ^ 28) * (L * L) ≤ (2 ^ 28 + 1) * ((hi + lo) * inv))
unfolding L hi lo inv
step-inv = (lit≤ tt, lit≤ tt)

-- 0.010899 L
unfoldable pub gap : ℕ
gap = 11429 * (2 ^ 60 * e)

pub gap-small : 10000 * gap ≤ 109 * L
unfolding L e gap
gap-small = lit≤ tt

gap-inv : 503 * (L * L) ≤ 1000 * (gap * inv)
unfolding L e gap inv
gap-inv = lit≤ tt

-- ---- the exact difference
diff : (r : Bool) (m N z L : ℕ) → 0 < L → Sg r m (N * L + 0) (0 + z * L) → (K : ℕ) × (m ≡ K * L) × Sg r K N z
diff false m N z L h g =
    let l : z ≤ N = le_of_mul-le-mul_left (le m N z L g) h in
    (N - z, flat m N z L (N - z) (sym (add-sub_of_le l)) g, sym (add-sub_of_le l))
  where
    le : (m N z L : ℕ) → N * L + 0 ≡ 0 + z * L + m → L * z ≤ L * N
    le m N z L g = omega arith

    flat : (m N z L K : ℕ) → N ≡ z + K → N * L + 0 ≡ 0 + z * L + m → m ≡ K * L
    flat m N z L K q g = go m z L K (sym (ap (λ (x : ℕ). x * L + 0) q) ∙ g)
      where
        go : (m z L K : ℕ) → (z + K) * L + 0 ≡ 0 + z * L + m → m ≡ K * L
        go m z L K g = omega arith
diff true m N z L h g =
    let l : N ≤ z = le_of_mul-le-mul_left (le m N z L g) h in
    (z - N, flat m N z L (z - N) (sym (add-sub_of_le l)) g, sym (add-sub_of_le l))
  where
    le : (m N z L : ℕ) → 0 + z * L ≡ N * L + 0 + m → L * N ≤ L * z
    le m N z L g = omega arith

    flat : (m N z L K : ℕ) → z ≡ N + K → 0 + z * L ≡ N * L + 0 + m → m ≡ K * L
    flat m N z L K q g = go m N L K (sym (ap (λ (x : ℕ). 0 + x * L) q) ∙ g)
      where
        go : (m N L K : ℕ) → 0 + (N + K) * L ≡ N * L + 0 + m → m ≡ K * L
        go m N L K g = omega arith

whole_sub : (x : Float) (N : ℕ) → Is x false (N * L) → N ≤ N0 + 36192 → N0 ≤ N + 36192
    → (r : Bool) × (K : ℕ) × Is (sub binary64 x SHIFT) r (K * L) × Sg r K N N0 × (K ≤ 36192)
unfolding L
whole_sub x N h a b =
    let q = add_is binary64 x (neg SHIFT) (N * L) 0 0 (N0 * L) (pair_of x false (N * L) h)
    (neg-val binary64 SHIFT (N0 * L) 0 (pair_of SHIFT false (N0 * L) shift_is)) in
    let k = diff q.0 q.1 N N0 L L-pos q.3 in
    let few : k.0 ≤ 36192 = small q.0 k.0 N N0 a b k.2 in
    let v = round_exact binary64 q.0 (k.0 * L) L k.0 1074 L-pos (lt_of_le_of_lt few (lit< tt))
    (lt_of_le_of_lt (mul-le-mul_right (2 ^ 1074) few) (lit< tt)) refl in (
      q.0,
      k.0,
      subst (λ (z : Float). Is z q.0 (k.0 * L))
          (sym (sub-opened binary64 x SHIFT ∙ q.2 ∙ ap (λ (z : ℕ). round binary64 q.0 z L) k.1)) v,
      k.2,
      few,
    )
  where
    small : (r : Bool) (K N z : ℕ) → N ≤ z + 36192 → z ≤ N + 36192 → Sg r K N z → K ≤ 36192
    small false K N z a b g = omega arith
    small true K N z a b g = omega arith

-- ---- from units of L L to steps: P is the step times PER_STEP
more : (A B K P LL h w G : ℕ) → 2 * h ≡ LL → 1048576 * w ≤ LL → 503 * LL ≤ 1000 * G → 2 ^ 28 * P ≤ (2 ^ 28 + 1) * LL
    → 2 ^ 28 * LL ≤ (2 ^ 28 + 1) * P → K ≤ 65536 → A ≤ B + K * LL + h + w → A ≤ B + K * P + G
more A B K P LL h w G p1 p2 p3 p4 p5 k c =
    let a : K * (2 ^ 28 * LL) ≤ K * ((2 ^ 28 + 1) * P) = mul-le-mul_left K p5 in
    let b : K * P ≤ 65536 * P = mul-le-mul_right P k in
    flat A B K P LL h w G p1 p2 p3 p4 a b c
  where
    flat : (A B K P LL h w G : ℕ) → 2 * h ≡ LL → 1048576 * w ≤ LL → 503 * LL ≤ 1000 * G
        → 2 ^ 28 * P ≤ (2 ^ 28 + 1) * LL → K * (2 ^ 28 * LL) ≤ K * ((2 ^ 28 + 1) * P) → K * P ≤ 65536 * P
        → A ≤ B + K * LL + h + w → A ≤ B + K * P + G
    flat A B K P LL h w G p1 p2 p3 p4 a b c = omega arith

fewer : (A B K P LL h w G : ℕ) → 2 * h ≡ LL → 1048576 * w ≤ LL → 503 * LL ≤ 1000 * G → 2 ^ 28 * P ≤ (2 ^ 28 + 1) * LL
    → K ≤ 65536 → A + K * LL ≤ B + h + w → A + K * P ≤ B + G
fewer A B K P LL h w G p1 p2 p3 p4 k c =
    let a : K * (2 ^ 28 * P) ≤ K * ((2 ^ 28 + 1) * LL) = mul-le-mul_left K p4 in
    let b : K * LL ≤ 65536 * LL = mul-le-mul_right LL k in
    flat A B K P LL h w G p1 p2 p3 a b c
  where
    flat : (A B K P LL h w G : ℕ) → 2 * h ≡ LL → 1048576 * w ≤ LL → 503 * LL ≤ 1000 * G
        → K * (2 ^ 28 * P) ≤ K * ((2 ^ 28 + 1) * LL) → K * LL ≤ 65536 * LL → A + K * LL ≤ B + h + w
        → A + K * P ≤ B + G
    flat A B K P LL h w G p1 p2 p3 a b c = omega arith

plus_times : (s : Bool) (g z : ℕ) → plus s (g * z) ≡ plus s g * z
plus_times false g z = refl
plus_times true g z = omega arith

less-times : (s : Bool) (g z : ℕ) → less-of s (g * z) ≡ less-of s g * z
less-times false g z = omega arith
less-times true g z = refl

-- x is N - N0 steps: in units of L L / inv. C1 is PER-STEP's product, C2 the whole number
steps : (r : Bool) (xp xm gp gm N z K L P h w G i : ℕ) → Sg r K N z → K ≤ 65536 → 2 * h ≡ L * L → 1048576 * w ≤ L * L
    → 503 * (L * L) ≤ 1000 * G → 2 ^ 28 * P ≤ (2 ^ 28 + 1) * (L * L) → 2 ^ 28 * (L * L) ≤ (2 ^ 28 + 1) * P
    → Close (gp * L + xm * i) (xp * i + gm * L) w → Close ((N * L + gm) * L) ((gp + z * L) * L)
    h → (xp * i + z * P ≤ xm * i + N * P + G) × (xm * i + N * P ≤ xp * i + z * P + G)
steps false xp xm gp gm N z K L P h w G i g k p1 p2 p3 p4 p5 c d =
    let A = more (xp * i) (xm * i) K P (L * L) h w G p1 p2 p3 p4 p5 k
    (u xp xm gp gm z K L h w i (subst (λ (n : ℕ). (gp + z * L) * L ≤ (n * L + gm) * L + h) g d.1) c.1) in
    let B = fewer (xm * i) (xp * i) K P (L * L) h w G p1 p2 p3 p4 k
    (v xp xm gp gm z K L h w i (subst (λ (n : ℕ). (n * L + gm) * L ≤ (gp + z * L) * L + h) g d.0) c.0) in (
      subst (λ (n : ℕ). xp * i + z * P ≤ xm * i + n * P + G) (sym g) (a' (xp * i) (xm * i) z K P G A),
      subst (λ (n : ℕ). xm * i + n * P ≤ xp * i + z * P + G) (sym g) (b' (xp * i) (xm * i) z K P G B),
    )
  where
    u : (xp xm gp gm z K L h w i : ℕ) → (gp + z * L) * L ≤ ((z + K) * L + gm) * L + h
        → xp * i + gm * L ≤ gp * L + xm * i + w → xp * i ≤ xm * i + K * (L * L) + h + w
    u xp xm gp gm z K L h w i d c = omega arith

    v : (xp xm gp gm z K L h w i : ℕ) → ((z + K) * L + gm) * L ≤ (gp + z * L) * L + h
        → gp * L + xm * i ≤ xp * i + gm * L + w → xm * i + K * (L * L) ≤ xp * i + h + w
    v xp xm gp gm z K L h w i d c = omega arith

    a' : (x y z K P G : ℕ) → x ≤ y + K * P + G → x + z * P ≤ y + (z + K) * P + G
    a' x y z K P G h = omega arith

    b' : (x y z K P G : ℕ) → y + K * P ≤ x + G → y + (z + K) * P ≤ x + z * P + G
    b' x y z K P G h = omega arith
steps true xp xm gp gm N z K L P h w G i g k p1 p2 p3 p4 p5 c d =
    let A = fewer (xp * i) (xm * i) K P (L * L) h w G p1 p2 p3 p4 k
    (u xp xm gp gm N K L h w i (subst (λ (n : ℕ). (gp + n * L) * L ≤ (N * L + gm) * L + h) g d.1) c.1) in
    let B = more (xm * i) (xp * i) K P (L * L) h w G p1 p2 p3 p4 p5 k
    (v xp xm gp gm N K L h w i (subst (λ (n : ℕ). (N * L + gm) * L ≤ (gp + n * L) * L + h) g d.0) c.0) in (
      subst (λ (n : ℕ). xp * i + n * P ≤ xm * i + N * P + G) (sym g) (a' (xp * i) (xm * i) N K P G A),
      subst (λ (n : ℕ). xm * i + N * P ≤ xp * i + n * P + G) (sym g) (b' (xp * i) (xm * i) N K P G B),
    )
  where
    u : (xp xm gp gm N K L h w i : ℕ) → (gp + (N + K) * L) * L ≤ (N * L + gm) * L + h
        → xp * i + gm * L ≤ gp * L + xm * i + w → xp * i + K * (L * L) ≤ xm * i + h + w
    u xp xm gp gm N K L h w i d c = omega arith

    v : (xp xm gp gm N K L h w i : ℕ) → (N * L + gm) * L ≤ (gp + (N + K) * L) * L + h
        → gp * L + xm * i ≤ xp * i + gm * L + w → xm * i ≤ xp * i + K * (L * L) + h + w
    v xp xm gp gm N K L h w i d c = omega arith

    a' : (x y N K P G : ℕ) → x + K * P ≤ y + G → x + (N + K) * P ≤ y + N * P + G
    a' x y N K P G h = omega arith

    b' : (x y N K P G : ℕ) → y ≤ x + K * P + G → y + N * P ≤ x + (N + K) * P + G
    b' x y N K P G h = omega arith

-- k and what is known of it
pub record Whole (t k : Float) (xp xm : ℕ) : Type 0 where
  pub N : ℕ
  pub t-is : Is t false (N * L)
  pub sign : Bool
  pub K : ℕ
  pub is : Is k sign (K * L)
  pub few : K ≤ 36192
  pub pair : Sg sign K N N0
  pub near1 : xp + N0 * (hi + lo) ≤ xm + N * (hi + lo) + gap
  pub near2 : xm + N * (hi + lo) ≤ xp + N0 * (hi + lo) + gap

module _ (x : Float) (s : Bool) (X : ℕ) (hx : Is x s X) (range : X ≤ 770 * L) where
  q : (g : ℕ) × Is (mul binary64 x PER_STEP) s g × Close (g * L) (X * inv) (L * (2 ^ 42 * e))
  q =
      let p = mul-within x PER_STEP s false X inv (2 ^ 42 * e) (power 42 (lit≤ tt)) hx inv-is
      (product-below 1 770 1 47 X inv L (2 ^ 54 * (2 ^ 42 * e)) L-pos (le_trans (le_of_eq (one-mul X)) range)
      (le_trans (le_of_eq (one-mul inv)) inv-size.1) q-number) in
      (p.0, subst (λ (b : Bool). Is (mul binary64 x PER_STEP) b p.0) (unlike-plus s) p.1, p.2)

  q-small : q.0 ≤ 36191 * L
  q-small = le_of_mul-le-mul_left (go q.0 X inv L (2 ^ 42 * e) (mul-le-mul range inv-size.1) q.2.0
      (mul-le-mul_left L (small-e 42 (lit≤ tt)))) L-pos
    where
      go : (g X i L w : ℕ) → X * i ≤ 770 * L * (47 * L) → g * L ≤ X * i + L * w → L * (1048576 * w) ≤ L * L
          → L * g ≤ L * (36191 * L)
      go g X i L w h k l = omega arith

  t : (g : ℕ) × Is (add binary64 (mul binary64 x PER_STEP) SHIFT) false g
      × Close (g + (less-of s q.0 + 0)) (plus s q.0 + N0 * L) (2 ^ 79 * e)
  t = add-within (mul binary64 x PER_STEP) SHIFT (plus s q.0) (less-of s q.0) (N0 * L) 0 (2 ^ 79 * e)
      (power 79 (lit≤ tt)) (pair_of (mul binary64 x PER_STEP) s q.0 q.1) (pair_of SHIFT false (N0 * L) shift_is)
      (a L q.0 (plus s q.0) (less-of s q.0) (2 ^ 54 * (2 ^ 79 * e)) L-pos X79 q-small (plus-le s q.0))
      (b L q.0 (plus s q.0) (less-of s q.0) (2 ^ 79 * e) L-pos halves q-small (less-le s q.0))
    where
      a : (L g p m X : ℕ) → 0 < L → X ≡ 2 ^ 53 * L → g ≤ 36191 * L → p ≤ g → p + 6755399441121216 * L < m + 0 + X
      a L g p m X h q k l = omega arith

      b : (L g p m w : ℕ) → 0 < L → 2 * w ≡ L → g ≤ 36191 * L → m ≤ g → m + 0 + w < p + 6755399441121216 * L
      b L g p m w h q k l = omega arith

  t-low : 2 ^ 52 * L ≤ t.0
  t-low = go L q.0 (plus s q.0) (less-of s q.0) t.0 (2 ^ 79 * e) halves q-small (less-le s q.0) t.2.1
    where
      go : (L g p m t w : ℕ) → 2 * w ≡ L → g ≤ 36191 * L → m ≤ g → p + 6755399441121216 * L ≤ t + (m + 0) + w
          → 2 ^ 52 * L ≤ t
      go L g p m t w h k l c = omega arith

  n : (N : ℕ) × (t.0 ≡ N * L)
  n = whole (add binary64 (mul binary64 x PER_STEP) SHIFT) t.0 (add-fits binary64 (mul binary64 x PER_STEP) SHIFT) t.1 t-low

  -- t is the whole number N
  N-near : Close (n.0 * L + less-of s q.0) (plus s q.0 + N0 * L) (2 ^ 79 * e)
  N-near = go t.0 (n.0 * L) (plus s q.0) (less-of s q.0) (N0 * L) (2 ^ 79 * e) n.1 t.2
    where
      go : (t N p m z w : ℕ) → t ≡ N → Close (t + (m + 0)) (p + z) w → Close (N + m) (p + z) w
      go t N p m z w h c = (omega (arith, c.0), omega (arith, c.1))

  N-range : (n.0 ≤ N0 + 36192) × (N0 ≤ n.0 + 36192)
  N-range = (
    le_of_mul-le-mul_left (a L n.0 q.0 (plus s q.0) (less-of s q.0) (2 ^ 79 * e) halves q-small
        (plus-le s q.0) N-near.0) L-pos,
    le_of_mul-le-mul_left (b L n.0 q.0 (plus s q.0) (less-of s q.0) (2 ^ 79 * e) halves q-small
        (less-le s q.0) N-near.1) L-pos,
  )
    where
      a : (L N g p m w : ℕ) → 2 * w ≡ L → g ≤ 36191 * L → p ≤ g → N * L + m ≤ p + 6755399441121216 * L + w
          → L * N ≤ L * (6755399441121216 + 36192)
      a L N g p m w h k l c = omega arith

      b : (L N g p m w : ℕ) → 2 * w ≡ L → g ≤ 36191 * L → m ≤ g → p + 6755399441121216 * L ≤ N * L + m + w
          → L * 6755399441121216 ≤ L * (N + 36192)
      b L N g p m w h k l c = omega arith

  -- ---- k = t - SHIFT, exactly
  t-is : Is (add binary64 (mul binary64 x PER_STEP) SHIFT) false (n.0 * L)
  t-is = subst (λ (z : ℕ). Is (add binary64 (mul binary64 x PER_STEP) SHIFT) false z) n.1 t.1

  whole-k : (r : Bool) × (K : ℕ) × Is (sub binary64 (add binary64 (mul binary64 x PER_STEP) SHIFT) SHIFT) r (K * L)
      × Sg r K n.0 N0 × (K ≤ 36192)
  whole-k = whole_sub (add binary64 (mul binary64 x PER_STEP) SHIFT) n.0 t-is N-range.0 N-range.1

  c1 : Close (plus s q.0 * L + less-of s X * inv) (plus s X * inv + less-of s q.0 * L) (L * (2 ^ 42 * e))
  c1 =
      let c = sign-close s (q.0 * L) (X * inv) (L * (2 ^ 42 * e)) q.2 in
      subst (λ (z : ℕ). Close (z + less-of s X * inv) (plus s X * inv + less-of s q.0 * L) (L * (2 ^ 42 * e)))
      (plus_times s q.0 L)
      (subst (λ (z : ℕ). Close (plus s (q.0 * L) + z) (plus s X * inv + less-of s q.0 * L) (L * (2 ^ 42 * e)))
      (less-times s X inv)
      (subst (λ (z : ℕ). Close (plus s (q.0 * L) + less-of s (X * inv)) (z + less-of s q.0 * L)
      (L * (2 ^ 42 * e))) (plus_times s X inv)
      (subst (λ (z : ℕ). Close (plus s (q.0 * L) + less-of s (X * inv)) (plus s (X * inv) + z) (L * (2 ^ 42 * e)))
      (less-times s q.0 L) c)))

  c2 : Close ((n.0 * L + less-of s q.0) * L) ((plus s q.0 + N0 * L) * L) (2 ^ 79 * e * L)
  c2 = (
    a (n.0 * L + less-of s q.0) (plus s q.0 + N0 * L) (2 ^ 79 * e) L N-near.0,
    a (plus s q.0 + N0 * L) (n.0 * L + less-of s q.0) (2 ^ 79 * e) L N-near.1,
  )
    where
      a : (x y w L : ℕ) → x ≤ y + w → x * L ≤ y * L + w * L
      a x y w L h = let m : x * L ≤ (y + w) * L = mul-le-mul_right L h in flat x y w L m
        where
          flat : (x y w L : ℕ) → x * L ≤ (y + w) * L → x * L ≤ y * L + w * L
          flat x y w L h = omega arith

  both : (plus s X * inv + N0 * ((hi + lo) * inv) ≤ less-of s X * inv + n.0 * ((hi + lo) * inv) + gap * inv)
      × (less-of s X * inv + n.0 * ((hi + lo) * inv) ≤ plus s X * inv + N0 * ((hi + lo) * inv) + gap * inv)
  both = steps whole-k.0 (plus s X) (less-of s X) (plus s q.0) (less-of s q.0) n.0 N0 whole-k.1 L
      ((hi + lo) * inv) (2 ^ 79 * e * L) (L * (2 ^ 42 * e)) (gap * inv) inv whole-k.3
      (le_trans whole-k.4 (lit≤ tt))
      (two (2 ^ 79 * e) L halves)
      (le_trans (le_of_eq (swap L (2 ^ 42 * e))) (mul-le-mul_left L (small-e 42 (lit≤ tt)))) gap-inv
      step-inv.0 step-inv.1 c1 c2
    where
      two : (h L : ℕ) → 2 * h ≡ L → 2 * (h * L) ≡ L * L
      two h L q = sym (mul_assoc 2 h L) ∙ ap (λ (z : ℕ). z * L) q

      swap : (L w : ℕ) → 1048576 * (L * w) ≡ L * (1048576 * w)
      swap L w = omega arith

  -- THE WHOLE NUMBER OF STEPS
  pub whole_is : Whole (add binary64 (mul binary64 x PER_STEP) SHIFT) (sub binary64 (add binary64 (mul binary64 x PER_STEP) SHIFT)
      SHIFT) (plus s X) (less-of s X)
  whole_is = record {
    N = n.0;
    t-is = t-is;
    sign = whole-k.0;
    K = whole-k.1;
    is = whole-k.2;
    few = whole-k.4;
    pair = whole-k.3;
    near1 = le_of_mul-le-mul_left (a (plus s X) (less-of s X) N0 n.0 (hi + lo) gap inv both.0) inv-pos;
    near2 = le_of_mul-le-mul_left (a (less-of s X) (plus s X) n.0 N0 (hi + lo) gap inv both.1) inv-pos;
  }
    where
      a : (x y u v l g i : ℕ) → x * i + u * (l * i) ≤ y * i + v * (l * i) + g * i
          → i * (x + u * l) ≤ i * (y + v * l + g)
      a x y u v l g i h = omega arith

      inv-pos : 0 < inv
      inv-pos = go L inv L-pos inv-size.0
        where
          go : (L i : ℕ) → 0 < L → 46 * L ≤ i → 0 < i
          go L i h k = omega arith
