-- Step 8 of exp changes no value. What the steps before it give for an x below 0 is already from 0 to 1, and what they
-- give for any other x is already 1 or more: a double on the other side of 1 is too far away from e ^ x. Assumes
-- nothing.
use Rattle.accuracy.proofs.Prelude.{◌≡◌, refl, sym, ap, ◌∙◌, subst, ◌⊎◌, inl, inr, Bool, true, false, not, cond}
use Rattle.accuracy.proofs.Prelude.{ℕ, suc, ◌+◌, ◌-◌, ◌*◌, ◌/◌, ◌^◌, ◌≤◌, ◌<◌, arith, T, lit<, pow-add, pow_mono}
use native.Mathlib.Nat.{le_refl, le_trans, le_of_eq, le_of_lt, le_antisymm, le_of_suc-le-suc, lt_of_not-le}
use native.Mathlib.Nat.{not-le_of_lt, mul-div_cancel}
use lib.Ieee.{Float, nan, inf, fin, binary64, top, hid, down, add, mul, lt, le, eq, of_bits, to_bits, fits, size}
use lib.Ieee.Bits.{of_bits-to_bits}
use lib.Ieee.Fits.{down_pos, mul-fits}
use lib.Ieee.Scale.{finite}
use Rattle.routines.specs.Held.{at_least, at_most}
use Rattle.routines.specs.Constants.{zero as nought, one}
use Rattle.routines.specs.Exp.{LEAST, MOST, tee, scaled_up, beside_one, out_of_range, exp_of}
use Rattle.accuracy.specs.Accuracy.{L, Is, ulp, ExpAtMost, ExpAtLeast, InUlps, Answers}
use Rattle.accuracy.specs.Faithful.{Double}
use Rattle.accuracy.proofs.Rounding.Binary64.{L-pos}
use Rattle.accuracy.proofs.Rounding.TimesPowerOfTwo.{L-pow, digits_of}
use Rattle.accuracy.proofs.Euler.AsClaimed.{below_one}
use Rattle.accuracy.proofs.Steps.ValueAnswers.{pow_lt_back, value-answers}
use Rattle.accuracy.proofs.Steps.BesideOneAnswers.{over-one}
use Rattle.accuracy.proofs.Steps.BesideOneAnswers.{from_one, inf-up}
use Rattle.accuracy.proofs.Claims.BoundsAgree.{bounds-agree}
use Rattle.accuracy.proofs.Claims.ExpAccurate.{scaled-valued, in-range}
use Rattle.accuracy.proofs.Rounding.Spacing.{Digits, PowerOf, power-digits, gap-above, gap_below, ulp-power}
use Rattle.accuracy.proofs.Claims.UlpAway.{ulp-above, ulp-below}
use Rattle.accuracy.proofs.Rounding.InUnits.{units_of, one-is, zero_is, not-less, below-zero, not-below}

-- ---- a double is known by its sign and its units
abbrev code : Bool → ℕ → ℕ
code s a = cond s (top binary64) 0 + (size a - 53) * hid binary64 + a / 2 ^ (size a - 53)

bits_of : (x : Float) (s : Bool) (a : ℕ) → Is x s a → to_bits binary64 x ≡ code s a
unfolding to_bits L
bits_of nan s a h = absurd h
bits_of (inf t) s a h = absurd h
bits_of (fin t m e) s a h =
    ap (λ (n : ℕ). code t (n / down e)) h.1
    ∙ ap (λ (n : ℕ). code t n) (mul-div_cancel a (down_pos e))
    ∙ ap (λ (z : Bool). code z a) h.0

pub same-double : (x y : Float) (a : ℕ) → Double x a → Double y a → x ≡ y
same-double x y a (f, h) (g, k) =
    let e : to_bits binary64 x ≡ to_bits binary64 y = bits_of x false a h ∙ sym (bits_of y false a k) in
    sym (of_bits-to_bits binary64 x f) ∙ ap (λ (b : ℕ). of_bits binary64 b) e ∙ of_bits-to_bits binary64 y g

pub zero-fits : T (fits binary64 nought)
unfolding of_bits fits
zero-fits = tt

pub one-fits : T (fits binary64 one)
unfolding of_bits fits
one-fits = tt

pub scaled_fits : (x t : Float) → T (fits binary64 (scaled_up x t))
unfolding scaled_up
scaled_fits x t = mul-fits binary64 _ _

-- ---- W units, a double, against 1
L-digits : Digits L
L-digits = subst Digits (sym L-pow) (power-digits 1074)

-- above 1 by an ulp of W
room : (W : ℕ) → Digits W → L < W → L + ulp W ≤ W
room W d g = elim (gap_below L W L-digits d g) [
  | inl r ↦ r
  | inr p ↦ power p
]
  where
    half : (L u W : ℕ) → 2 * L ≤ W → W ≡ 2 ^ 52 * u → L + u ≤ W
    half L u W h e = omega arith

    power : PowerOf W → L + ulp W ≤ W
    power (k, big, e) =
        let more : 1074 < k = pow_lt_back 1074 k (subst (λ (z : ℕ). z < 2 ^ k) L-pow (subst (λ (z : ℕ). L < z) e g)) in
        let two : 2 * L ≡ 2 ^ 1075 = ap (λ (z : ℕ). 2 * z) L-pow ∙ sym (pow-add 2 1 1074) in
        subst (λ (z : ℕ). L + ulp z ≤ z) (sym e)
        (half L (ulp (2 ^ k)) (2 ^ k) (le_trans (le_of_eq two) (pow_mono more)) (ulp-power k (le_of_lt big)))

-- where e ^ x ≤ 1
most-one : (s : Bool) (X W : ℕ) → Digits W → InUlps s X W → ExpAtMost s X L 1 1 → W ≤ L
most-one s X W d k h = le_of_suc-le-suc (lt_of_not-le never)
  where
    never : L < W → ⊥
    never g = (ulp-below s X W L k (room W d g)).strict (over-one s X L L (le_refl L) h)

-- where 1 ≤ e ^ x
least-one : (s : Bool) (X W : ℕ) → Digits W → InUlps s X W → ExpAtLeast s X L 1 1 → L ≤ W
least-one s X W d k h = le_of_suc-le-suc (lt_of_not-le never)
  where
    never : W < L → ⊥
    never g = (ulp-above s X W L k (gap-above W L d L-digits g)).strict (over-one (not s) X L L (le_refl L) h)

-- no +inf where e ^ x ≤ 1
pub no-infinity : (s : Bool) (X : ℕ) → ExpAtLeast s X L (2 ^ 1024 * 2 ^ 52) (suc (2 ^ 52)) → ExpAtMost s X L 1 1 → ⊥
no-infinity s X h k = not-le_of_lt (lit< tt) (bounds-agree s X L (2 ^ 1024 * 2 ^ 52) (suc (2 ^ 52)) 1 1 L-pos h k)

-- ---- v held to a bound on whose right side it is
at-least-same : (v b : Float) (W B : ℕ) → Double v W → Double b B → B ≤ W → at_least v b ≡ v
unfolding at_least
at-least-same v b W B d c l = go (lt b v) (not-less b v B W c.1 d.1)
  where
    go : (y : Bool) → (T (not y) → W ≤ B) → cond y v b ≡ v
    go true u = refl
    go false u = same-double b v B c (subst (λ (z : ℕ). Double v z) (le_antisymm (u tt) l) d)

at-most-same : (v b : Float) (W B : ℕ) → Double v W → Double b B → W ≤ B → at_most v b ≡ v
unfolding at_most
at-most-same v b W B d c l = go (lt v b) (not-less v b W B d.1 c.1)
  where
    go : (y : Bool) → (T (not y) → B ≤ W) → cond y v b ≡ v
    go true u = refl
    go false u = same-double b v B c (subst (λ (z : ℕ). Double v z) (le_antisymm l (u tt)) d)

-- ---- x below 0
floor-same : (v : Float) (W : ℕ) → Double v W → at_least v nought ≡ v
floor-same v W d = at-least-same v nought W 0 d (zero-fits, zero_is) (nothing W)
  where
    nothing : (W : ℕ) → 0 ≤ W
    nothing W = omega arith

on-the-left : (X : ℕ) (v : Float) → T (fits binary64 v) → Answers true X v → at_most (at_least v nought) one ≡ v
on-the-left X v f (inl a) =
    let l : a.W ≤ L = most-one true X a.W (digits_of v a.W f a.is) a.place (below_one X L) in
    ap (λ (z : Float). at_most z one) (floor-same v a.W (f, a.is))
    ∙ at-most-same v one a.W L (f, a.is) (one-fits, one-is) l
on-the-left X v f (inr a) = absurd (no-infinity true X a.huge (below_one X L))

-- ---- any other x
on-the-right : (s : Bool) (X : ℕ) (v : Float) → ExpAtLeast s X L 1 1 → T (fits binary64 v) → Answers s X v
    → at_least v one ≡ v
on-the-right s X v l f (inl a) =
    at-least-same v one a.W L (f, a.is) (one-fits, one-is)
    (least-one s X a.W (digits_of v a.W f a.is) a.place l)
on-the-right s X v l f (inr a) = subst (λ (z : Float). at_least z one ≡ z) (sym a.is) inf-up

-- ---- step 8
beside_same : (x : Float) (s : Bool) (X : ℕ) → Is x s X → (v : Float) → T (fits binary64 v) → Answers s X v
    → beside_one x v ≡ v
unfolding beside_one
beside_same x s X hx v f a = go (lt x nought) (below-zero x s X hx) (not-below x s X hx)
  where
    go : (b : Bool) → (T b → s ≡ true) → (T (not b) → (s ≡ false) ⊎ (X ≡ 0))
        → cond b (at_most (at_least v nought) one) (at_least v one) ≡ v
    go true u w = on-the-left X v f (subst (λ (z : Bool). Answers z X v) (u tt) a)
    go false u w = on-the-right s X v (from_one s X (w tt)) f a

-- a NaN and the infinities fail a guard
passes-finite : (x : Float) → T (le LEAST (tee x)) → T (le (tee x) MOST) → T (finite x)
unfolding tee le lt eq add mul of_bits
passes-finite nan a b = a
passes-finite (inf true) a b = a
passes-finite (inf false) a b = b
passes-finite (fin s m e) a b = tt

-- THE LAW: for every double x whose t passes both guards
pub step-8-changes-nothing : (x : Float) → T (fits binary64 x) → T (le LEAST (tee x)) → T (le (tee x) MOST)
    → beside_one x (scaled_up x (tee x)) ≡ scaled_up x (tee x)
step-8-changes-nothing x f a b =
    let (s, X, h) = units_of x f (passes-finite x a b) in
    let v = scaled_up x (tee x) in
    beside_same x s X h v (scaled_fits x (tee x)) (value-answers s X v (scaled-valued x s X h (in-range x s X h a b)))

-- so exp is the same without it, at every double
pub exp-without-step-8 : (x : Float) → T (fits binary64 x)
    → exp_of x ≡ cond (le LEAST (tee x)) (cond (le (tee x) MOST) (scaled_up x (tee x)) (out_of_range x)) (out_of_range x)
unfolding exp_of
exp-without-step-8 x f =
    go (le LEAST (tee x)) (le (tee x) MOST) (beside_one x (scaled_up x (tee x))) (step-8-changes-nothing x f)
  where
    go : (a b : Bool) (v : Float) → (T a → T b → v ≡ scaled_up x (tee x))
        → cond a (cond b v (out_of_range x)) (out_of_range x) ≡ cond a (cond b (scaled_up x (tee x)) (out_of_range x)) (out_of_range x)
    go true true v h = h tt tt
    go true false v h = refl
    go false b v h = refl
