-- Step 7's last product, by a power of two: exact from the least normal double on, off by half a unit at most below
-- it, and +inf from 2 ^ 1024 on. Assumes nothing.
use Rattle.accuracy.proofs.Prelude.{◌≡◌, refl, sym, ap, ◌∙◌, subst, ◌⊎◌, inl, inr, Bool, true, false, not, cond}
use Rattle.accuracy.proofs.Prelude.{ℕ, suc, ◌+◌, ◌-◌, ◌*◌, ◌/◌, ◌^◌, ◌≤◌, ◌<◌, arith, T, leb, leb→le, nleb→lt}
use Rattle.accuracy.proofs.Prelude.{ltb, ltb→lt, nltb→le, lit<, pow-add, pow_mono}
use native.Mathlib.Nat.{le_refl, le_trans, le_of_eq, le_of_suc-le-suc, lt_of_le_of_lt, lt_of_lt_of_le, lt_of_not-le}
use native.Mathlib.Nat.{not-le_of_lt, mul-one, mul_assoc, mul-pos, mul-le-mul_left, mul-le-mul_right}
use native.Mathlib.Nat.{le_of_mul-le-mul_left, lt_of_mul-lt-mul_right, eq_of_mul-eq-mul_right}
use native.Mathlib.Nat.{mul-lt-mul_of_pos_right, div-lt_iff_lt-mul, sub-add_cancel}
use lib.Ieee.{Float, nan, inf, fin, Format, binary64, prec, low, down, round, mul, le, fits, units, odd}
use lib.Ieee.Digits.{size-le}
use lib.Ieee.Exact.{HasValue}
use lib.Ieee.Fits.{down_pos, round_is}
use lib.Ieee.Order.{drop, kept, round_mono}
use lib.Ieee.Scale.{grid, overflow, round_val}
use Rattle.routines.proofs.Rounding.{Half, grid-absolute}
use Rattle.accuracy.specs.Accuracy.{L, Is}
use Rattle.accuracy.proofs.Rounding.AnyFormat.{mul_is, round-has}
use Rattle.accuracy.proofs.Rounding.Binary64.{L-pos}
use Rattle.accuracy.proofs.Rounding.PowersOfTwo.{mul-exact}
use Rattle.routines.proofs.Sizes.{in-units}

-- ---- the digits of a double
pub digits_of : (x : Float) (g : ℕ) → T (fits binary64 x) → Is x false g
    → (q : ℕ) × (j : ℕ) × (q < 2 ^ 53) × (g ≡ q * 2 ^ j)
unfolding L
digits_of nan g f v = absurd v
digits_of (inf s) g f v = absurd v
digits_of (fin s m e) g f v =
    let u = in-units s m e f in
    (m, u.0, u.1, eq_of_mul-eq-mul_right (down e) (down_pos e) g (m * 2 ^ u.0) (sym v.1 ∙ u.2))

-- ---- what is at least +inf
pub top-is : (z : Float) → T (le (inf false) z) → z ≡ inf false
unfolding le
top-is nan h = absurd h
top-is (inf true) h = absurd h
top-is (inf false) h = refl
top-is (fin s m e) h = absurd h

big-round : round binary64 false (2 ^ 1024) 1 ≡ inf false
unfolding round
big-round = refl

pub over-round : (N c : ℕ) → 0 < c → 2 ^ 1024 * c ≤ N → round binary64 false N c ≡ inf false
over-round N c hc h = top-is (round binary64 false N c) (subst (λ (z : Float). T (le z (round binary64 false N c)))
    big-round (round_mono binary64 (2 ^ 1024) 1 N c (le_refl 1) hc (le_trans h (le_of_eq (sym (mul-one N))))))

-- ---- a rounding is its grid point, or an infinity
units-inf : (f : Format) (s : Bool) (q k : ℕ) → overflow f ≤ q * 2 ^ k → units f s q k ≡ inf s
unfolding units
units-inf f s q k h = go (ltb (q * 2 ^ k) (overflow f)) (ltb→lt (q * 2 ^ k) (overflow f))
  where
    go : (b : Bool) → (T b → q * 2 ^ k < overflow f) → cond b (odd (suc (prec f)) s q k (low f)) (inf s) ≡ inf s
    go true u = absurd (not-le_of_lt (u tt) h)
    go false u = refl

pub round-either : (f : Format) (s : Bool) (a c : ℕ)
    → HasValue (round f s a c) s (grid f a c) (2 ^ low f) ⊎ (round f s a c ≡ inf s)
round-either f s a c =
    go (ltb (grid f a c) (overflow f)) (ltb→lt (grid f a c) (overflow f)) (nltb→le (grid f a c) (overflow f))
  where
    q : ℕ
    q = kept (prec f) (a * 2 ^ low f) c

    k : ℕ
    k = drop (prec f) (a * 2 ^ low f) c

    go : (b : Bool) → (T b → grid f a c < overflow f) → (T (not b) → overflow f ≤ grid f a c)
        → HasValue (round f s a c) s (grid f a c) (2 ^ low f) ⊎ (round f s a c ≡ inf s)
    go true u w = inl (round-has f s a c (u tt))
    go false u w = inr (round_is f s a c ∙ units-inf f s q k (w tt))

-- ---- the product w of a double of g units and 2 ^ u units: N = g 2 ^ u is exactly N / L units
abbrev pub Exact : Float → ℕ → Type 0
Exact w N = (W : ℕ) × Is w false W × (W * L ≡ N) × (2 ^ 52 * L ≤ N)

abbrev pub Small : Float → ℕ → Type 0
Small w N = (W : ℕ) × Is w false W × (W ≤ 2 ^ 52) × (N < 2 ^ 52 * L) × (2 * W * L ≤ 2 * N + L) × (2 * N ≤ 2 * W * L + L)

abbrev pub Over : Float → ℕ → Type 0
Over w N = (w ≡ inf false) × (2 ^ 1024 * (L * L) ≤ N)

abbrev pub Product : Float → ℕ → Type 0
Product w N = Exact w N ⊎ (Small w N ⊎ Over w N)

-- a small one
shrink : (g N L : ℕ) → 0 < L → Half (g * (L * L)) (N * L) (L * L) → (2 * g * L ≤ 2 * N + L) × (2 * N ≤ 2 * g * L + L)
shrink g N L h k = (le_of_mul-le-mul_left (a g N L k.0) h, le_of_mul-le-mul_left (b g N L k.1) h)
  where
    a : (g N L : ℕ) → g * (L * L) * 2 ≤ N * L * 2 + L * L → L * (2 * g * L) ≤ L * (2 * N + L)
    a g N L h = omega arith

    b : (g N L : ℕ) → N * L * 2 ≤ g * (L * L) * 2 + L * L → L * (2 * N) ≤ L * (2 * g * L + L)
    b g N L h = omega arith

few : (g N L : ℕ) → 0 < L → N < 2 ^ 52 * L → 2 * g * L ≤ 2 * N + L → g ≤ 2 ^ 52
few g N L h_l h k = le_of_suc-le-suc (lt_of_mul-lt-mul_right L (flat g N L h k))
  where
    flat : (g N L : ℕ) → N < 2 ^ 52 * L → 2 * g * L ≤ 2 * N + L → g * L < suc (2 ^ 52) * L
    flat g N L h k = omega arith

small : (w : Float) (N : ℕ) → w ≡ round binary64 false N (L * L) → N < 2 ^ 52 * L → Product w N
unfolding L
small w N q h =
    let C : 0 < L * L = mul-pos L-pos L-pos in
    let half = shrink (grid binary64 N (L * L)) N L L-pos
    (grid-absolute binary64 N (L * L) C
    (size-le (N * L / (L * L)) 53 ((div-lt_iff_lt-mul C).1 (wide N L (mul-lt-mul_of_pos_right h L-pos))))) in
    let g = grid binary64 N (L * L) in
    let le : g ≤ 2 ^ 52 = few g N L L-pos h half.0 in
    inr (inl (
      g,
      subst (λ (z : Float). HasValue z false g L) (sym q)
          (round_val binary64 N (L * L) (lt_of_le_of_lt le (lit< tt))),
      le,
      h,
      half.0,
      half.1,
    ))
  where
    wide : (N L : ℕ) → N * L < 2 ^ 52 * L * L → N * L < 2 ^ 53 * (L * L)
    wide N L h = omega arith

-- a normal one: its place v is not below the unit's
pub L-pow : L ≡ 2 ^ 1074
unfolding L
L-pow = refl

place : (q n : ℕ) → q < 2 ^ 53 → 2 ^ 52 * L ≤ q * 2 ^ n → 1074 ≤ n
place q n h k = lt_of_not-le
    (λ (g : n ≤ 1073). never q (2 ^ n) L L-pos h
    (le_trans (le_of_eq (sym (pow-add 2 1 n))) (le_trans (pow_mono (more n g)) (le_of_eq (sym L-pow)))) k)
  where
    more : (n : ℕ) → n ≤ 1073 → 1 + n ≤ 1074
    more n g = omega arith

    never : (q x L : ℕ) → 0 < L → q < 2 ^ 53 → 2 * x ≤ L → 2 ^ 52 * L ≤ q * x → ⊥
    never q x L h_l h k l =
        let a : q * (2 * x) ≤ q * L = mul-le-mul_left q k in
        let b : suc q * L ≤ 2 ^ 53 * L = mul-le-mul_right L h in
        flat (q * x) (q * L) L h_l (le_trans (le_of_eq (turn q x)) a) (le_trans (le_of_eq (turn' q L)) b) l
      where
        turn : (q x : ℕ) → 2 * (q * x) ≡ q * (2 * x)
        turn q x = omega arith

        turn' : (q L : ℕ) → q * L + L ≡ suc q * L
        turn' q L = omega arith

        flat : (z y L : ℕ) → 0 < L → 2 * z ≤ y → y + L ≤ 2 ^ 53 * L → 2 ^ 52 * L ≤ z → ⊥
        flat z y L h_l a b l = omega arith

top : 2 ^ 1024 * (L * L) ≡ 2 ^ 2098 * L
unfolding L
top = refl

mul-rounds : (x y : Float) (a b : ℕ) → Is x false a → Is y false b
    → mul binary64 x y ≡ round binary64 false (a * b) (L * L)
unfolding L
mul-rounds x y a b h k = mul_is binary64 x y false false a b h k

-- THE PRODUCT
pub last-product : (x b : Float) (g u : ℕ) → T (fits binary64 x) → Is x false g → Is b false (2 ^ u)
    → Product (mul binary64 x b) (g * 2 ^ u)
last-product x b g u f hx hb = go (ltb (g * 2 ^ u) (2 ^ 52 * L)) (ltb→lt (g * 2 ^ u) (2 ^ 52 * L))
    (nltb→le (g * 2 ^ u) (2 ^ 52 * L)) (leb (2 ^ 1024 * (L * L)) (g * 2 ^ u))
    (leb→le (2 ^ 1024 * (L * L)) (g * 2 ^ u)) (nleb→lt (2 ^ 1024 * (L * L)) (g * 2 ^ u))
  where
    rounded : mul binary64 x b ≡ round binary64 false (g * 2 ^ u) (L * L)
    rounded = mul-rounds x b g (2 ^ u) hx hb

    normal : 2 ^ 52 * L ≤ g * 2 ^ u → g * 2 ^ u < 2 ^ 1024 * (L * L) → Product (mul binary64 x b) (g * 2 ^ u)
    normal lo hi =
        let d = digits_of x g f hx in
        let q = d.0 in
        let j = d.1 in
        let e : g * 2 ^ u ≡ q * 2 ^ (j + u) = ap (λ (z : ℕ). z * 2 ^ u) d.3 ∙ mul_assoc q (2 ^ j) (2 ^ u)
        ∙ ap (λ (z : ℕ). q * z) (sym (pow-add 2 j u)) in
        let p : 1074 ≤ j + u = place q (j + u) d.2 (le_trans lo (le_of_eq e)) in
        let w = j + u - 1074 in
        let s : j + u ≡ w + 1074 = sym (sub-add_cancel p) in
        let e2 : q * 2 ^ w * L ≡ g * 2 ^ u = mul_assoc q (2 ^ w) L ∙ ap (λ (z : ℕ). q * (2 ^ w * z)) L-pow
        ∙ ap (λ (z : ℕ). q * z) (sym (pow-add 2 w 1074) ∙ ap (λ (z : ℕ). 2 ^ z) (sym s)) ∙ sym e in
        inl (
          q * 2 ^ w,
          mul-exact x b q j u w (subst (λ (z : ℕ). Is x false z) d.3 hx) hb s d.2
              (lt_of_mul-lt-mul_right L (lt_of_le_of_lt (le_of_eq e2) (lt_of_lt_of_le hi (le_of_eq top)))),
          e2,
          lo,
        )

    go : (y : Bool) → (T y → g * 2 ^ u < 2 ^ 52 * L) → (T (not y) → 2 ^ 52 * L ≤ g * 2 ^ u) → (z : Bool)
        → (T z → 2 ^ 1024 * (L * L) ≤ g * 2 ^ u) → (T (not z) → g * 2 ^ u < 2 ^ 1024 * (L * L))
        → Product (mul binary64 x b) (g * 2 ^ u)
    go true a a' z c c' = small (mul binary64 x b) (g * 2 ^ u) rounded (a tt)
    go false a a' true c c' = inr (inr (rounded ∙ over-round (g * 2 ^ u) (L * L) (mul-pos L-pos L-pos) (c tt), c tt))
    go false a a' false c c' = normal (a' tt) (c' tt)
