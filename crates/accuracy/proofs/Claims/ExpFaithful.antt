-- exp is one of the two doubles around e ^ x, for every finite double x: `Faithful` of specs/Faithful.antt. It follows
-- from the claim of 0.70 ulp where doubles lie an ulp apart, and from BelowPowersOfTwo.antt below a power of two.
-- Assumes nothing.
use Rattle.accuracy.proofs.Prelude.{◌≡◌, refl, sym, ap, ◌∙◌, subst, ◌⊎◌, inl, inr, Bool, true, false, not, cond}
use Rattle.accuracy.proofs.Prelude.{◌&&◌, ℕ, zero, suc, ◌*◌, ◌%◌, ◌^◌, ◌≤◌, ◌<◌, arith, T, leb, ltb, ltb→lt, eqb}
use Rattle.accuracy.proofs.Prelude.{lit≤, lit<, pow_pos, pow-lt}
use native.Mathlib.Nat.{le_trans, le_of_eq, lt_of_le_of_lt, lt_of_lt_of_le, not-le_of_lt, lt_of_mul-lt-mul_right}
use native.Mathlib.Nat.{eq_of_mul-eq-mul_right, mul-pos, mul-le-mul_right, mul-lt-mul_of_pos_right}
use lib.Ieee.{Float, nan, inf, fin, binary64, up, down, lt, le, fits}
use lib.Ieee.Fits.{inf-fits, down_pos, and_r}
use Rattle.routines.specs.Constants.{zero as nought}
use Rattle.routines.specs.Exp.{LEAST, MOST, tee, scaled_up, out_of_range, exp_of}
use Rattle.routines.proofs.Compared.{le_is}
use Rattle.accuracy.specs.Accuracy.{L, Is, InUlps, Answers}
use Rattle.accuracy.specs.Faithful.{Double, Over, Under, Faithful}
use Rattle.accuracy.proofs.Rounding.Binary64.{L-pos}
use Rattle.accuracy.proofs.Rounding.TimesPowerOfTwo.{Exact, Small, digits_of}
use Rattle.accuracy.proofs.Steps.ValueUpTo770.{Valued}
use Rattle.accuracy.proofs.Steps.ValueAnswers.{value-answers}
use Rattle.accuracy.proofs.Steps.RangeTests.{failed}
use Rattle.accuracy.proofs.Steps.OutOfRangeAnswers.{octave-pos, tiny}
use Rattle.accuracy.proofs.Claims.ExpAccurate.{scaled-valued, in-range}
use Rattle.accuracy.proofs.Rounding.Spacing.{Digits, PowerOf, gap-above, gap_below}
use Rattle.accuracy.proofs.Claims.UlpAway.{over-of, under_of, ulp-above, ulp-below}
use Rattle.accuracy.proofs.Claims.StepEightChangesNothing.{zero-fits, scaled_fits, exp-without-step-8}
use Rattle.accuracy.proofs.Claims.BelowPowersOfTwo.{power-under}
use Rattle.accuracy.proofs.Steps.Octaves.{octave, far-out}
use Rattle.accuracy.proofs.Rounding.InUnits.{unique, zero_is, holds, less-is, below-zero, not-below}

digits : (w : Float) (Y : ℕ) → Double w Y → Digits Y
digits w Y c = digits_of w Y c.0 c.1

-- ---- +inf
-- a finite double is below 2 ^ 1024
pub under_top : (w : Float) (Y : ℕ) → Double w Y → Y < 2 ^ 1024 * L
unfolding fits
under_top nan Y d = absurd d.1
under_top (inf t) Y d = absurd d.1
under_top (fin t zero e) Y d =
    let nil : 0 ≡ Y = eq_of_mul-eq-mul_right (down e) (down_pos e) 0 Y (none (up e) L (down e) ∙ d.1.1) in
    subst (λ (z : ℕ). z < 2 ^ 1024 * L) nil (mul-pos (pow_pos 1024) L-pos)
  where
    none : (u l d : ℕ) → 0 * d ≡ 0 * u * l
    none u l d = omega arith
under_top (fin t (suc m) e) Y d =
    let rest = eqb (suc m % 2) 1 && ltb (suc m) (2 ^ 53) && leb (down e) (2 ^ 1074) in
    let last = ltb (suc m * up e) (2 ^ 1024 * down e) in
    let small : suc m * up e < 2 ^ 1024 * down e = ltb→lt (suc m * up e) (2 ^ 1024 * down e) (and_r rest last d.0) in
    let wide : suc m * up e * L < 2 ^ 1024 * L * down e =
    lt_of_lt_of_le (mul-lt-mul_of_pos_right small L-pos) (le_of_eq (turn (2 ^ 1024) (down e) L)) in
    lt_of_mul-lt-mul_right (down e) (lt_of_le_of_lt (le_of_eq (sym d.1.1)) wide)
  where
    turn : (t d l : ℕ) → t * d * l ≡ t * l * d
    turn t d l = omega arith

pub top-power : 2 ^ 1024 * L ≡ 2 ^ 2098
unfolding L
top-power = refl

none_above : (w : Float) → T (lt (inf false) w) → ⊥
unfolding lt
none_above nan t = t
none_above (inf s) t = t
none_above (fin s m e) t = t

-- +inf, where each finite double is below e ^ x
of-infinite : (s : Bool) (X : ℕ) → ((w : Float) (Y : ℕ) → Double w Y → Under s X Y) → Faithful s X (inf false)
of-infinite s X h = record {
  double = inf-fits binary64 false;
  above = λ w Y c t. absurd (none_above w t);
  below = λ w Y c t. h w Y c;
}

-- ---- step 7's value v
module _ (s : Bool) (X : ℕ) (v : Float) (k : Valued s X v) where
  inf-clash : (W : ℕ) → Is v false W → v ≡ inf false → ⊥
  inf-clash W h q = subst (λ (z : Float). Is z false W) q h

  -- a power of two is no rounded one
  exact-power : (p : ℕ) → 52 < p → Is v false (2 ^ p) → 2 ^ p * L ≤ k.N
  exact-power p big h = elim k.product [
    | inl x ↦ exact x
    | inr y ↦ elim y [ inl x ↦ small x | inr x ↦ absurd (inf-clash (2 ^ p) h x.0) ]
  ]
    where
      exact : Exact v k.N → 2 ^ p * L ≤ k.N
      exact (W, i, e, lo) = le_of_eq (ap (λ (z : ℕ). z * L) (unique v false false (2 ^ p) W L L-pos h i).1 ∙ e)

      small : Small v k.N → 2 ^ p * L ≤ k.N
      small (W, i, few, lo, a, b) =
          absurd (not-le_of_lt (pow-lt big) (le_trans (le_of_eq (unique v false false (2 ^ p) W L L-pos h i).1) few))

  top_reached : v ≡ inf false → 2 ^ 2098 * L ≤ k.N
  top_reached q = elim k.product [
    | inl x ↦ absurd (inf-clash x.0 x.1 q)
    | inr y ↦ elim y [ inl x ↦ absurd (inf-clash x.0 x.1 q) | inr x ↦ le_trans (le_of_eq same) x.1 ]
  ]
    where
      turn : (t l : ℕ) → t * l * l ≡ t * (l * l)
      turn t l = omega arith

      same : 2 ^ 2098 * L ≡ 2 ^ 1024 * (L * L)
      same = ap (λ (z : ℕ). z * L) (sym top-power) ∙ turn (2 ^ 1024) L

  of-finite : (W : ℕ) → Double v W → InUlps s X W → Faithful s X v
  of-finite W d i = record {
    double = d.0;
    above = λ w Y c t. over w Y c (less-is v w W Y d.1 c.1 t);
    below = λ w Y c t. under w Y c (less-is w v Y W c.1 d.1 t);
  }
    where
      over : (w : Float) (Y : ℕ) → Double w Y → W < Y → Over s X Y
      over w Y c l = ulp-above s X W Y i (gap-above W Y (digits v W d) (digits w Y c) l)

      power : (Y : ℕ) → Digits Y → Y < W → PowerOf W → Under s X Y
      power Y c l (p, big, e) =
          let reached = exact-power p big (subst (λ (z : ℕ). Is v false z) e d.1) in
          power-under s X v k Y p c big reached (subst (λ (z : ℕ). Y < z) e l)

      under : (w : Float) (Y : ℕ) → Double w Y → Y < W → Under s X Y
      under w Y c l = elim (gap_below Y W (digits w Y c) (digits v W d) l) [
        | inl h ↦ ulp-below s X W Y i h
        | inr p ↦ power Y (digits w Y c) l p
      ]

  under-infinite : v ≡ inf false → (w : Float) (Y : ℕ) → Double w Y → Under s X Y
  under-infinite q w Y c =
      power-under s X v k Y 2098 (digits w Y c) (lit< tt) (top_reached q)
      (lt_of_lt_of_le (under_top w Y c) (le_of_eq top-power))

  of-answers : T (fits binary64 v) → Answers s X v → Faithful s X v
  of-answers f (inl a) = of-finite a.W (f, a.is) a.place
  of-answers f (inr a) = subst (λ (z : Float). Faithful s X z) (sym a.is) (of-infinite s X (under-infinite a.is))

  of-value : T (fits binary64 v) → Faithful s X v
  of-value f = of-answers f (value-answers s X v k)

-- ---- steps 2 and 3, far out
far-zero : (X : ℕ) → 1099 * octave ≤ X → Faithful true X nought
far-zero X h = record {
  double = zero-fits;
  above = λ w Y c t. over-of true X 1 (2 * L) Y two-L (more Y L L-pos (less-is nought w 0 Y zero_is c.1 t)) (tiny X h);
  below = λ w Y c t. absurd (never Y (less-is w nought Y 0 c.1 zero_is t));
}
  where
    two-L : 0 < 2 * L
    two-L = mul-pos (lit< {m = 0} {n = 2} tt) L-pos

    flat : (Y L : ℕ) → 0 < L → 1 * L ≤ Y * L → 1 * L < Y * (2 * L)
    flat Y L p h = omega arith

    more : (Y L : ℕ) → 0 < L → 0 < Y → 1 * L < Y * (2 * L)
    more Y L p q = flat Y L p (mul-le-mul_right L q)

    never : (Y : ℕ) → Y < 0 → ⊥
    never Y h = omega arith

numbers : 2 ^ 1024 * (1 * suc (2 ^ 80)) ≤ 2 ^ 1099 * 2 ^ 80
numbers = lit≤ tt

far-inf : (X : ℕ) → 1099 * octave ≤ X → Faithful false X (inf false)
far-inf X h = of-infinite false X under
  where
    turn : (t l q : ℕ) → t * l * q ≡ t * q * l
    turn t l q = omega arith

    less : (Y : ℕ) → Y < 2 ^ 1024 * L → Y * (1 * suc (2 ^ 80)) < 2 ^ 1099 * 2 ^ 80 * L
    less Y l =
        lt_of_lt_of_le (mul-lt-mul_of_pos_right l (lit< tt))
        (le_trans (le_of_eq (turn (2 ^ 1024) L (1 * suc (2 ^ 80)))) (mul-le-mul_right L numbers))

    under : (w : Float) (Y : ℕ) → Double w Y → Under false X Y
    under w Y c =
        under_of false X (2 ^ 1099 * 2 ^ 80) (1 * suc (2 ^ 80)) Y (lit< tt) (less Y (under_top w Y c)) (far-out X h)

of-out_of_range : (x : Float) (s : Bool) (X : ℕ) → Is x s X → 1099 * octave ≤ X → Faithful s X (out_of_range x)
unfolding out_of_range
of-out_of_range x s X hx h = go (lt x nought) (below-zero x s X hx) (not-below x s X hx)
  where
    never : (o X : ℕ) → 0 < o → 1099 * o ≤ X → X ≡ 0 → ⊥
    never o X p h q = omega arith

    nothing : (X : ℕ) → 0 ≤ X
    nothing X = omega arith

    at_least : (b : Bool) → T b → Faithful false X (cond b (inf false) x)
    at_least true t = far-inf X h
    at_least false t = absurd t

    up-there : s ≡ false → Faithful s X (cond (le nought x) (inf false) x)
    up-there q =
        let i : Is x false X = subst (λ (z : Bool). Is x z X) q hx in
        let t : T (le nought x) = (le_is binary64 nought x 0 X (holds nought 0 zero_is) (holds x X i)).1 (nothing X) in
        subst (λ (z : Bool). Faithful z X (cond (le nought x) (inf false) x)) (sym q) (at_least (le nought x) t)

    go : (b : Bool) → (T b → s ≡ true) → (T (not b) → (s ≡ false) ⊎ (X ≡ 0))
        → Faithful s X (cond b nought (cond (le nought x) (inf false) x))
    go true u w = subst (λ (z : Bool). Faithful z X nought) (sym (u tt)) (far-zero X h)
    go false u w = elim (w tt) [
      | inl q ↦ up-there q
      | inr q ↦ absurd (never octave X octave-pos h q)
    ]

-- ---- exp
far : (x : Float) (s : Bool) (X : ℕ) → Is x s X → (T (le LEAST (tee x)) → T (le (tee x) MOST) → ⊥)
    → Faithful s X (out_of_range x)
unfolding tee
far x s X h k = of-out_of_range x s X h (failed x s X h k)

-- THE THEOREM, for every finite double x = ± X units
pub exp-faithful : (x : Float) (s : Bool) (X : ℕ) → T (fits binary64 x) → Is x s X → Faithful s X (exp_of x)
exp-faithful x s X f h =
    subst (λ (z : Float). Faithful s X z) (sym (exp-without-step-8 x f))
    (go (le LEAST (tee x)) (le (tee x) MOST) near (far x s X h))
  where
    v : Float
    v = scaled_up x (tee x)

    near : T (le LEAST (tee x)) → T (le (tee x) MOST) → Faithful s X v
    near a b = of-value s X v (scaled-valued x s X h (in-range x s X h a b)) (scaled_fits x (tee x))

    go : (a b : Bool) → (T a → T b → Faithful s X v) → ((T a → T b → ⊥) → Faithful s X (out_of_range x))
        → Faithful s X (cond a (cond b v (out_of_range x)) (out_of_range x))
    go true true n k = n tt tt
    go true false n k = k (λ (u : Unit {0}) (w : ⊥). w)
    go false b n k = k (λ (w : ⊥) (u : T b). w)
