-- Step 2's tests: where t passes both, |x| is at most 770, and where it fails one, |x| is at least 1099 octaves, of
-- 32 Λ each. Assumes nothing.
use Rattle.accuracy.proofs.Prelude.{◌≡◌, refl, sym, ◌∙◌, subst, inl, inr, Bool, true, false, not, true≢false, ℕ}
use Rattle.accuracy.proofs.Prelude.{suc, ◌+◌, ◌*◌, ◌/◌, ◌^◌, ◌≤◌, ◌<◌, arith, T, leb, leb→le, nleb→lt, ltb}
use Rattle.accuracy.proofs.Prelude.{ltb→lt, nltb→le, lit≤, lit<}
use native.Mathlib.Nat.{le_trans, le_of_suc-le-suc, lt_of_not-le, le_of_eq, le_of_lt, mul-pos, mul-le-mul_left}
use native.Mathlib.Nat.{mul-le-mul_right, le_of_mul-le-mul_left, le_of_mul-le-mul_right, mul_comm}
use lib.Ieee.{Float, nan, inf, fin, binary64, unlike, round, add, mul, le, of_bits, size, sub}
use lib.Ieee.Exact.{HasValue}
use lib.Ieee.Fits.{add-fits, mul-fits}
use lib.Ieee.Order.{le_of_values}
use lib.Ieee.Positive.{positive, between, values_of_le, positive-finite}
use lib.Ieee.Scale.{finite, grid}
use Rattle.routines.specs.Exp.{PER_STEP, SHIFT, LEAST, MOST}
use Rattle.routines.specs.Units.{Off}
use Rattle.routines.proofs.Rounding.{Half, rounded, rounded-off, grid-relative, grid-absolute}
use Rattle.accuracy.specs.Accuracy.{L, Is}
use Rattle.accuracy.proofs.Rounding.AnyFormat.{Sg, plus, less-of, add_is, mul_is, plus-le, less-le}
use Rattle.accuracy.proofs.Rounding.Binary64.{L-pos, e, pair_of}
use Rattle.accuracy.proofs.Steps.Reduction.{hi, lo}
use Rattle.accuracy.proofs.Steps.Octaves.{octave}
use Rattle.accuracy.proofs.Steps.IndexExact.{N0, inv, inv-is, inv-size, shift_is, gap, Whole, whole_is}
use Rattle.accuracy.proofs.Steps.NearUpTo770.{tee, octave-is}
use Rattle.accuracy.proofs.Rounding.TimesPowerOfTwo.{round-either}
use Rattle.accuracy.proofs.Rounding.InUnits.{unique, units_of}

-- ---- the bounds
least-is : Is LEAST false (6755399441086016 * L)
unfolding L of_bits
least-is = (refl, refl)

most-is : Is MOST false (6755399441156416 * L)
unfolding L of_bits
most-is = (refl, refl)

least-positive : T (positive LEAST)
unfolding of_bits
least-positive = tt

most-positive : T (positive MOST)
unfolding of_bits
most-positive = tt

-- ---- t passes
positive-sign : (x : Float) (s : Bool) (a : ℕ) → T (positive x) → Is x s a → s ≡ false
positive-sign nan s a p v = absurd p
positive-sign (inf t) s a p v = absurd p
positive-sign (fin true m e) s a p v = absurd p
positive-sign (fin false m e) s a p v = sym v.0

-- a sum with SHIFT that is finite has a finite term
term : (q : Float) → T (finite (add binary64 q SHIFT)) → T (finite q)
unfolding add of_bits
term nan h = absurd h
term (inf s) h = absurd h
term (fin s m e) h = tt

inf-clash : (x : Float) (s : Bool) → T (finite x) → x ≡ inf s → ⊥
inf-clash x s h q = subst (λ (z : Float). T (finite z)) q h

-- a finite rounding is its grid point
pub grid-is : (x : Float) (s s' : Bool) (a c g : ℕ) → x ≡ round binary64 s a c → T (finite x) → Is x s' g
    → (s ≡ s') × (grid binary64 a c ≡ g)
unfolding L
grid-is x s s' a c g q k h = elim (round-either binary64 s a c) [
  | inl v ↦ unique x s s' (grid binary64 a c) g L L-pos (subst (λ (z : Float). HasValue z s (grid binary64 a c) L)
      (sym q) v) h
  | inr v ↦ absurd (inf-clash x s k (q ∙ v))
]

rounded-sum : (n : ℕ) → Off (2 ^ 53) (grid binary64 n L) n
unfolding L rounded
rounded-sum n = rounded-off binary64 n

-- a sum n that is rounded to between the bounds
off-unit : (n G L : ℕ) → Off (2 ^ 53) G n → n ≤ 2 ^ 53 * L → (G ≤ n + L) × (n ≤ G + L)
off-unit n G L h k = (
  le_of_mul-le-mul_left (a n G L h.0 k) (lit< {m = 0} {n = 2 ^ 53} tt),
  le_of_mul-le-mul_left (b n G L h.1 k) (lit< {m = 0} {n = 2 ^ 53} tt),
)
  where
    a : (n G L : ℕ) → G * 2 ^ 53 ≤ n * 2 ^ 53 + n → n ≤ 2 ^ 53 * L → 2 ^ 53 * G ≤ 2 ^ 53 * (n + L)
    a n G L h k = omega arith

    b : (n G L : ℕ) → n * 2 ^ 53 ≤ G * 2 ^ 53 + n → n ≤ 2 ^ 53 * L → 2 ^ 53 * n ≤ 2 ^ 53 * (G + L)
    b n G L h k = omega arith

sum-wide : (n G L : ℕ) → 0 < L → Off (2 ^ 53) G n → G ≤ 6755399441156416 * L → n ≤ 2 ^ 53 * L
sum-wide n G L p h b = le_of_suc-le-suc (lt_of_not-le (λ (k : suc (2 ^ 53 * L) ≤ n). never n G L p h.1 b k))
  where
    never : (n G L : ℕ) → 0 < L → n * 2 ^ 53 ≤ G * 2 ^ 53 + n → G ≤ 6755399441156416 * L → suc (2 ^ 53 * L) ≤ n → ⊥
    never n G L p h b k =
        let c : 7 * n ≤ 8 * G = fourth n G h in
        flat n G L p c b k
      where
        fourth : (n G : ℕ) → n * 2 ^ 53 ≤ G * 2 ^ 53 + n → 7 * n ≤ 8 * G
        fourth n G h = omega arith

        flat : (n G L : ℕ) → 0 < L → 7 * n ≤ 8 * G → G ≤ 6755399441156416 * L → suc (2 ^ 53 * L) ≤ n → ⊥
        flat n G L p h b k = omega arith

sum-between : (n G : ℕ) → Off (2 ^ 53) G n → 6755399441086016 * L ≤ G → G ≤ 6755399441156416 * L
    → (6755399441086014 * L ≤ n) × (n ≤ 6755399441156418 * L)
sum-between n G h a b = let o = off-unit n G L h (sum-wide n G L L-pos h b) in (down n G L o.0 a, up n G L o.1 b)
  where
    down : (n G L : ℕ) → G ≤ n + L → 6755399441086016 * L ≤ G → 6755399441086014 * L ≤ n
    down n G L h a = omega arith

    up : (n G L : ℕ) → n ≤ G + L → G ≤ 6755399441156416 * L → n ≤ 6755399441156418 * L
    up n G L h a = omega arith

term-small : (s r : Bool) (g n L : ℕ) → r ≡ false → Sg r n (plus s g + 6755399441121216 * L) (less-of s g + 0)
    → 6755399441086014 * L ≤ n → n ≤ 6755399441156418 * L → g ≤ 35202 * L
term-small s true g n L q h a b = absurd (true≢false q)
term-small false false g n L q h a b = omega arith
term-small true false g n L q h a b = omega arith

-- the product Z / L units, rounded to g units
product_small : (Z g : ℕ) → grid binary64 Z (L * L) ≡ g → g ≤ 35202 * L → Z ≤ 35203 * (L * L)
unfolding L
product_small Z g q h =
    let C : 0 < L * L = mul-pos L-pos L-pos in
    let m : g * L ≤ 35202 * L * L = mul-le-mul_right L h in
    go (leb (size (Z * L / (L * L))) 53)
    (λ (t : T (leb (size (Z * L / (L * L))) 53)). subst (λ (z : ℕ). Half (z * (L * L)) (Z * L) (L * L)) q
    (grid-absolute binary64 Z (L * L) C (leb→le (size (Z * L / (L * L))) 53 t)))
    (λ (t : T (not (leb (size (Z * L / (L * L))) 53))). subst (λ (z : ℕ). Off (2 ^ 53) (z * (L * L)) (Z * L)) q
    (grid-relative binary64 Z (L * L) C (le_of_lt (nleb→lt (size (Z * L / (L * L))) 53 t)))) m
  where
    near : (Z g L : ℕ) → 0 < L → Half (g * (L * L)) (Z * L) (L * L) → g * L ≤ 35202 * L * L → Z ≤ 35203 * (L * L)
    near Z g L p h m = le_of_mul-le-mul_left (flat Z g L h.1 (mul-le-mul_left L m) (mul-le-mul_left (L * L) p)) p
      where
        flat : (Z g L : ℕ) → Z * L * 2 ≤ g * (L * L) * 2 + L * L → L * (g * L) ≤ L * (35202 * L * L)
            → L * L * 1 ≤ L * L * L → L * Z ≤ L * (35203 * (L * L))
        flat Z g L h m p = omega arith

    far : (Z g L : ℕ) → 0 < L → Off (2 ^ 53) (g * (L * L)) (Z * L) → g * L ≤ 35202 * L * L → Z ≤ 35203 * (L * L)
    far Z g L p h m = le_of_mul-le-mul_left
        (flat (Z * L) (g * (L * L)) (L * L * L) h.1
        (le_trans (le_of_eq (turn g L)) (le_trans (mul-le-mul_left L m) (le_of_eq (turn' L)))) (mul_comm L Z)
        (turn3 L)) p
      where
        turn : (g L : ℕ) → g * (L * L) ≡ L * (g * L)
        turn g L = omega arith

        turn' : (L : ℕ) → L * (35202 * L * L) ≡ 35202 * (L * L * L)
        turn' L = omega arith

        turn3 : (L : ℕ) → 35203 * (L * L * L) ≡ L * (35203 * (L * L))
        turn3 L = omega arith

        flat : {u v : ℕ} (z y c : ℕ) → z * 2 ^ 53 ≤ y * 2 ^ 53 + z → y ≤ 35202 * c → u ≡ z → 35203 * c ≡ v → u ≤ v
        flat z y c h m q r = omega arith

    go : (b : Bool) → (T b → Half (g * (L * L)) (Z * L) (L * L)) → (T (not b) → Off (2 ^ 53) (g * (L * L)) (Z * L))
        → g * L ≤ 35202 * L * L → Z ≤ 35203 * (L * L)
    go true u w m = near Z g L L-pos (u tt) m
    go false u w m = far Z g L L-pos (w tt) m

factor-small : (X i L : ℕ) → 0 < L → 46 * L ≤ i → X * i ≤ 35203 * (L * L) → X ≤ 770 * L
factor-small X i L p h k =
    let a : X * (46 * L) ≤ X * i = mul-le-mul_left X h in
    le_of_mul-le-mul_left (flat X L (X * i) a k) p
  where
    flat : (X L z : ℕ) → X * (46 * L) ≤ z → z ≤ 35203 * (L * L) → L * X ≤ L * (770 * L)
    flat X L z a k = omega arith

tee-between : (t : Float) (G : ℕ) → Is t false G → T (positive t) → T (le LEAST t) → T (le t MOST)
    → (6755399441086016 * L ≤ G) × (G ≤ 6755399441156416 * L)
tee-between t G h p a b = (
  le_of_mul-le-mul_right (values_of_le LEAST t (6755399441086016 * L) L G L least-positive p least-is h a) L-pos,
  le_of_mul-le-mul_right (values_of_le t MOST G L (6755399441156416 * L) L p most-positive h most-is b) L-pos,
)

-- THE GUARDS PASSED
product-rounds : (x : Float) (s : Bool) (X : ℕ) → Is x s X
    → mul binary64 x PER_STEP ≡ round binary64 (unlike s false) (X * inv) (L * L)
unfolding L
product-rounds x s X hx = mul_is binary64 x PER_STEP s false X inv hx inv-is

sum-rounds : (q : Float) (s : Bool) (g : ℕ) → Is q s g
    → (r : Bool) × (n : ℕ) × (add binary64 q SHIFT ≡ round binary64 r n L)
    × Sg r n (plus s g + N0 * L) (less-of s g + 0)
unfolding L
sum-rounds q s g h = add_is binary64 q SHIFT (plus s g) (less-of s g) (N0 * L) 0 (pair_of q s g h)
    (pair_of SHIFT false (N0 * L) shift_is)

pub passed : (x : Float) (s : Bool) (X : ℕ) → Is x s X → T (le LEAST (tee x)) → T (le (tee x) MOST) → X ≤ 770 * L
passed x s X hx a b =
    let p : T (positive (tee x)) = between LEAST (tee x) MOST least-positive most-positive a b in
    let kt : T (finite (tee x)) = positive-finite (tee x) p in
    let kq : T (finite (mul binary64 x PER_STEP)) = term (mul binary64 x PER_STEP) kt in
    let q = units_of (mul binary64 x PER_STEP) (mul-fits binary64 x PER_STEP) kq in
    let t = units_of (tee x) (add-fits binary64 (mul binary64 x PER_STEP) SHIFT) kt in
    let ht : Is (tee x) false t.1 =
    subst (λ (z : Bool). Is (tee x) z t.1) (positive-sign (tee x) t.0 t.1 p t.2) t.2 in
    let r = sum-rounds (mul binary64 x PER_STEP) q.0 q.1 q.2 in
    let g = grid-is (tee x) r.0 false r.1 L t.1 r.2 kt ht in
    let w = tee-between (tee x) t.1 ht p a b in
    let n = sum-between r.1 t.1 (subst (λ (z : ℕ). Off (2 ^ 53) z r.1) g.1 (rounded-sum r.1)) w.0
    w.1 in
    let small = term-small q.0 r.0 q.1 r.1 L g.0 r.3 n.0 n.1 in
    let gq = grid-is (mul binary64 x PER_STEP) (unlike s false) q.0 (X * inv) (L * L) q.1 (product-rounds x s X hx)
    kq q.2 in
    factor-small X inv L L-pos inv-size.0 (product_small (X * inv) q.1 gq.1 small)

-- THE GUARDS FAILED
gap_step : gap ≤ hi + lo
unfolding gap hi lo e
gap_step = lit≤ tt

octaves-770 : 1099 * octave ≤ 770 * L
unfolding octave L
octaves-770 = lit≤ tt

out-low : (xp xm N l g : ℕ) → g ≤ l → N < 6755399441086016 → xp + 6755399441121216 * l ≤ xm + N * l + g
    → 1099 * (32 * l) ≤ xm
out-low xp xm N l g h k c =
    let m : suc N * l ≤ 6755399441086016 * l = mul-le-mul_right l k in
    flat xp xm N l g h m c
  where
    flat : (xp xm N l g : ℕ) → g ≤ l → suc N * l ≤ 6755399441086016 * l → xp + 6755399441121216 * l ≤ xm + N * l + g
        → 1099 * (32 * l) ≤ xm
    flat xp xm N l g h m c = omega arith

out-high : (xp xm N l g : ℕ) → g ≤ l → 6755399441156416 < N → xm + N * l ≤ xp + 6755399441121216 * l + g
    → 1099 * (32 * l) ≤ xp
out-high xp xm N l g h k c =
    let m : 6755399441156417 * l ≤ N * l = mul-le-mul_right l k in
    flat xp xm N l g h m c
  where
    flat : (xp xm N l g : ℕ) → g ≤ l → 6755399441156417 * l ≤ N * l → xm + N * l ≤ xp + 6755399441121216 * l + g
        → 1099 * (32 * l) ≤ xp
    flat xp xm N l g h m c = omega arith

failed-near : (x : Float) (s : Bool) (X : ℕ) → Is x s X → X ≤ 770 * L
    → (T (le LEAST (tee x)) → T (le (tee x) MOST) → ⊥) → 1099 * octave ≤ X
failed-near x s X hx range both = subst (λ (o : ℕ). 1099 * o ≤ X) (sym octave-is)
    (go (ltb k.N 6755399441086016) (ltb→lt k.N 6755399441086016) (nltb→le k.N 6755399441086016)
    (ltb 6755399441156416 k.N) (ltb→lt 6755399441156416 k.N) (nltb→le 6755399441156416 k.N))
  where
    k : Whole (tee x) (sub binary64 (tee x) SHIFT) (plus s X) (less-of s X)
    k = whole_is x s X hx range

    go : (y : Bool) → (T y → k.N < 6755399441086016) → (T (not y) → 6755399441086016 ≤ k.N) → (z : Bool)
        → (T z → 6755399441156416 < k.N) → (T (not z) → k.N ≤ 6755399441156416) → 1099 * (32 * (hi + lo)) ≤ X
    go true a a' z c c' =
        le_trans (out-low (plus s X) (less-of s X) k.N (hi + lo) gap gap_step (a tt) k.near1) (less-le s X)
    go false a a' true c c' =
        le_trans (out-high (plus s X) (less-of s X) k.N (hi + lo) gap gap_step (c tt) k.near2) (plus-le s X)
    go false a a' false c c' = absurd (both
        (le_of_values LEAST (tee x) (6755399441086016 * L) L (k.N * L) L L-pos L-pos least-is k.t-is
        (mul-le-mul_right L (mul-le-mul_right L (a' tt))))
        (le_of_values (tee x) MOST (k.N * L) L (6755399441156416 * L) L L-pos L-pos k.t-is most-is
        (mul-le-mul_right L (mul-le-mul_right L (c' tt)))))

pub failed : (x : Float) (s : Bool) (X : ℕ) → Is x s X → (T (le LEAST (tee x)) → T (le (tee x) MOST) → ⊥)
    → 1099 * octave ≤ X
failed x s X hx both = go (leb X (770 * L)) (leb→le X (770 * L)) (nleb→lt X (770 * L))
  where
    go : (b : Bool) → (T b → X ≤ 770 * L) → (T (not b) → 770 * L < X) → 1099 * octave ≤ X
    go true a a' = failed-near x s X hx (a tt) both
    go false a a' = le_trans octaves-770 (le_of_lt (a' tt))
