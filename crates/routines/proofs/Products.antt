-- A product v x against v itself: by a factor of 1 or more v does not come nearer to 0, and by one of at most 1 it does
-- not go further, rounding and all. So where v x is above v, v has the sign of x - 1.
-- Assumes nothing.
use Rattle.std.proofs.Common.{◌≡◌, ℕ, zero, suc, ◌+◌, ◌*◌, ◌<◌, ◌≤◌, Bool, true, false, cond, ◌&&◌, ◌||◌, T, eqb, ltb}
use Rattle.std.proofs.Common.{ℤ, pos, sym, refl, ap, ◌∙◌, subst, true≢false, le_trans, le_of_eq, le_of_lt}
use Rattle.std.proofs.Common.{mul-le-mul_right, zero-lt-suc, mul_assoc, mul_comm, mul-le-mul_left, mul-pos, zero-mul}
use Rattle.std.proofs.Common.{le_of_mul-le-mul_right, arith, eqb→eq, ltb-true, le-ltb, lt-ltb}
use mathlib.Core.Bool.{false≢true}
use lib.Ieee.{Float, nan, inf, fin, binary64, up, down, unlike, of_bits, neg, lt, le, eq, mul, round, fits}
use lib.Ieee.Fits.{down_pos, up_pos, and_l}
use lib.Ieee.Exact.{HasValue, round_exact}
use lib.Ieee.Order.{round_mono}
use lib.Ieee.Scale.{round_same}
use Rattle.routines.specs.Constants.{one, zero as nought}
use Rattle.routines.proofs.Tests.{yes}
use Rattle.routines.proofs.Patterns.{rounded-are}
use Rattle.routines.proofs.Sizes.{in-units, neg-round}
use Rattle.routines.proofs.Orders.{one-above-zero}

-- ---- the size of a value that fits, rounded, is that size
pub own-size : (s : Bool) (m : ℕ) (e : ℤ) → T (fits binary64 (fin s m e))
    → HasValue (round binary64 false (m * up e) (down e)) false (m * up e) (down e)
own-size s m e F =
    let u = in-units s m e F in
    round_exact binary64 false (m * up e) (down e) m u.0 (down_pos e) u.1 u.3 u.2

-- ---- the order of three fractions: X / dx is level with A / da, and below or above W / dw
module _ (X dx A da W dw : ℕ) (D : 0 < da) (same : A * dx ≡ X * da) where
  carry-up : A * dw ≤ W * da → X * dw ≤ W * dx
  carry-up h =
      let p : A * dx * dw ≡ X * da * dw = ap (λ (z : ℕ). z * dw) same in
      let q : A * dw * dx ≤ W * da * dx = mul-le-mul_right dx h in
      let r : X * dw * da ≤ W * dx * da = omega arith in
      le_of_mul-le-mul_right r D

  carry-down : W * da ≤ A * dw → W * dx ≤ X * dw
  carry-down h =
      let p : A * dx * dw ≡ X * da * dw = ap (λ (z : ℕ). z * dw) same in
      let q : W * da * dx ≤ A * dw * dx = mul-le-mul_right dx h in
      let r : W * dx * da ≤ X * dw * da = omega arith in
      le_of_mul-le-mul_right r D

pub or-le : (a b : ℕ) → T (ltb a b || (eqb a b && true)) → a ≤ b
or-le a b t = go (ltb a b) refl t
  where
    go : (c : Bool) → ltb a b ≡ c → T (c || (eqb a b && true)) → a ≤ b
    go true e t = le_of_lt (ltb-true a b e)
    go false e t = le_of_eq (eqb→eq a b (and_l (eqb a b) true t))

-- ---- a size a / c, as a float x, against what a product was rounded to
module _ (m : ℕ) (e : ℤ) (x : Float) (own : HasValue x false (m * up e) (down e)) where
  pub up_from : (r : Float) → T (le x r) → ((k : ℕ) (g : ℤ) → r ≡ fin false k g → m * up e * down g ≤ k * up g * down e)
  unfolding le lt eq
  up_from r h k g i = go x own (subst (λ (y : Float). T (le x y)) i h)
    where
      go : (x : Float) → HasValue x false (m * up e) (down e) → T (le x (fin false k g))
          → m * up e * down g ≤ k * up g * down e
      go nan v t = absurd v
      go (inf s) v t = absurd v
      go (fin true a b) v t = absurd (true≢false v.0)
      go (fin false a b) v t =
          carry-up (m * up e) (down e) (a * up b) (down b) (k * up g) (down g) (down_pos b) v.1
          (or-le (a * up b * down g) (k * up g * down b) t)

  pub down_to : (r : Float) → T (le r x) → ((k : ℕ) (g : ℤ) → r ≡ fin false k g → k * up g * down e ≤ m * up e * down g)
  unfolding le lt eq
  down_to r h k g i = go x own (subst (λ (y : Float). T (le y x)) i h)
    where
      go : (x : Float) → HasValue x false (m * up e) (down e) → T (le (fin false k g) x)
          → k * up g * down e ≤ m * up e * down g
      go nan v t = absurd v
      go (inf s) v t = absurd v
      go (fin true a b) v t = absurd (true≢false v.0)
      go (fin false a b) v t =
          carry-down (m * up e) (down e) (a * up b) (down b) (k * up g) (down g) (down_pos b) v.1
          (or-le (k * up g * down b) (a * up b * down g) t)

  pub finite-below : (r : Float) → T (le r x) → r ≡ inf false → ⊥
  unfolding le lt eq
  finite-below r h i = go x own (subst (λ (y : Float). T (le y x)) i h)
    where
      go : (x : Float) → HasValue x false (m * up e) (down e) → T (le (inf false) x) → ⊥
      go nan v t = absurd v
      go (inf s) v t = absurd v
      go (fin s a b) v t = absurd t

-- ---- the product
module _ (m : ℕ) (e : ℤ) (n : ℕ) (d : ℤ) where
  more-size : down d ≤ n * up d → m * up e * (down e * down d) ≤ m * up e * (n * up d) * down e
  more-size h =
      le_trans
      (le_of_eq
      (ap (λ (z : ℕ). m * up e * z) (mul_comm (down e) (down d)) ∙ sym (mul_assoc (m * up e) (down d) (down e))))
      (mul-le-mul_right (down e) (mul-le-mul_left (m * up e) h))

  less-size : n * up d ≤ down d → m * up e * (n * up d) * down e ≤ m * up e * (down e * down d)
  less-size h =
      le_trans (mul-le-mul_right (down e) (mul-le-mul_left (m * up e) h))
      (le_of_eq (mul_assoc (m * up e) (down d) (down e) ∙ ap (λ (z : ℕ). m * up e * z) (mul_comm (down d) (down e))))

  -- a negative value, by a factor of 1 or more, does not rise
  no-rise : T (fits binary64 (fin true m e)) → down d ≤ n * up d
      → lt (fin true m e) (mul binary64 (fin true m e) (fin false n d)) ≡ false
  unfolding mul
  no-rise F h =
      subst (λ (r : Float). lt (fin true m e) r ≡ false) (neg-round binary64 (m * up e * (n * up d)) (down e * down d))
      (at-neg own)
    where
      x0 : Float
      x0 = round binary64 false (m * up e) (down e)

      own : T (le x0 (round binary64 false (m * up e * (n * up d)) (down e * down d)))
      own =
          round_mono binary64 (m * up e) (down e) (m * up e * (n * up d)) (down e * down d) (down_pos e)
          (mul-pos (down_pos e) (down_pos d)) (more-size h)

      at-neg : T (le x0 (round binary64 false (m * up e * (n * up d)) (down e * down d)))
          → lt (fin true m e) (neg (round binary64 false (m * up e * (n * up d)) (down e * down d))) ≡ false
      at-neg =
          rounded-are binary64 false (m * up e * (n * up d)) (down e * down d)
          (λ (r : Float). T (le x0 r) → lt (fin true m e) (neg r) ≡ false)
          (λ t. unfold lt neg in refl)
          (λ (k : ℕ) (g : ℤ) (t : T (le x0 (fin false k g))). unfold lt neg in le-ltb (k * up g * down e)
          (m * up e * down g) (up_from m e x0 (own-size true m e F) (fin false k g) t k g refl))

  -- a positive value, by a factor of at most 1, does not rise
  no-growth : T (fits binary64 (fin false m e)) → n * up d ≤ down d
      → lt (fin false m e) (mul binary64 (fin false m e) (fin false n d)) ≡ false
  unfolding mul
  no-growth F h = at_size own
    where
      x0 : Float
      x0 = round binary64 false (m * up e) (down e)

      own : T (le (round binary64 false (m * up e * (n * up d)) (down e * down d)) x0)
      own =
          round_mono binary64 (m * up e * (n * up d)) (down e * down d) (m * up e) (down e)
          (mul-pos (down_pos e) (down_pos d)) (down_pos e) (less-size h)

      at_size : T (le (round binary64 false (m * up e * (n * up d)) (down e * down d)) x0)
          → lt (fin false m e) (round binary64 false (m * up e * (n * up d)) (down e * down d)) ≡ false
      at_size =
          rounded-are binary64 false (m * up e * (n * up d)) (down e * down d)
          (λ (r : Float). T (le r x0) → lt (fin false m e) r ≡ false)
          (λ (t : T (le (inf false) x0)). absurd (finite-below m e x0 (own-size false m e F) (inf false) t refl))
          (λ (k : ℕ) (g : ℤ) (t : T (le (fin false k g) x0)). unfold lt in le-ltb (m * up e * down g)
          (k * up g * down e) (down_to m e x0 (own-size false m e F) (fin false k g) t k g refl))

-- ---- a zero, and a zero times anything finite
pub zero-rounds : (s : Bool) (n c : ℕ) → 0 < c → n ≡ 0 → round binary64 s n c ≡ fin s 0 (pos 0)
zero-rounds s n c C z =
    round_same binary64 s n c 0 1 C (zero-lt-suc 0) (ap (λ (k : ℕ). k * 1) z ∙ sym (zero-mul c)) ∙ at_zero s
  where
    at_zero : (s : Bool) → round binary64 s 0 1 ≡ fin s 0 (pos 0)
    at_zero true = unfold round in refl
    at_zero false = unfold round in refl

zero-product : (s : Bool) (u b c : ℕ) → 0 < c → round binary64 s (0 * u * b) c ≡ fin s 0 (pos 0)
zero-product s u b c C = zero-rounds s (0 * u * b) c C (flat u b)
  where
    flat : (u b : ℕ) → 0 * u * b ≡ 0
    flat u b = omega arith

pub zero-stays : (s : Bool) (e : ℤ) (x : Float) → lt (fin s 0 e) (mul binary64 (fin s 0 e) x) ≡ false
unfolding mul lt
zero-stays s e nan = refl
zero-stays s e (inf t) = refl
zero-stays s e (fin t n d) =
    subst (λ (r : Float). lt (fin s 0 e) r ≡ false)
    (sym (zero-product (unlike s t) (up e) (n * up d) (down e * down d) (mul-pos (down_pos e) (down_pos d))))
    (level s (unlike s t))
  where
    level : (s u : Bool) → lt (fin s 0 e) (fin u 0 (pos 0)) ≡ false
    level true true = le-ltb (0 * 1 * down e) (0 * up e * 1) (flat (down e) (up e))
      where
        flat : (d u : ℕ) → 0 * u * 1 ≤ 0 * 1 * d
        flat d u = omega arith
    level true false = le-ltb 0 (0 * up e * 1 + 0 * 1 * down e) (flat (down e) (up e))
      where
        flat : (d u : ℕ) → 0 * u * 1 + 0 * 1 * d ≤ 0
        flat d u = omega arith
    level false true = refl
    level false false = le-ltb (0 * up e * 1) (0 * 1 * down e) (flat (down e) (up e))
      where
        flat : (d u : ℕ) → 0 * 1 * d ≤ 0 * u * 1
        flat d u = omega arith

-- an infinity does not rise
inf-stays : (s : Bool) (x : Float) → lt nought x ≡ true → lt (inf s) (mul binary64 (inf s) x) ≡ false
unfolding mul lt of_bits
inf-stays s nan h = absurd (false≢true h)
inf-stays s (inf true) h = absurd (false≢true h)
inf-stays true (inf false) h = refl
inf-stays false (inf false) h = refl
inf-stays s (fin true n d) h = absurd (false≢true h)
inf-stays s (fin false n d) h = go s (eqb n 0)
  where
    go : (s b : Bool) → lt (inf s) (cond b nan (inf (unlike s false))) ≡ false
    go s true = refl
    go true false = refl
    go false false = refl

-- ---- against one, as fractions
at_least_one : (n : ℕ) (d : ℤ) → le one (fin false n d) ≡ true → down d ≤ n * up d
unfolding le lt eq of_bits
at_least_one n d h = plain (n * up d) (down d) (or-le (1 * down d) (n * up d * 1) (yes h))
  where
    plain : (a b : ℕ) → 1 * b ≤ a * 1 → b ≤ a
    plain a b h = omega arith

at_most_one : (n : ℕ) (d : ℤ) → le (fin false n d) one ≡ true → n * up d ≤ down d
unfolding le lt eq of_bits
at_most_one n d h = plain (n * up d) (down d) (or-le (n * up d * 1) (1 * down d) (yes h))
  where
    plain : (a b : ℕ) → a * 1 ≤ 1 * b → a ≤ b
    plain a b h = omega arith

-- ---- THE SIGN: v x is above v
some_size : (m u d : ℕ) → 0 < u → 0 * d < suc m * u * 1
some_size m u d h = more (suc m * u) d (mul-pos (zero-lt-suc m) h)
  where
    more : (n d : ℕ) → 0 < n → 0 * d < n * 1
    more n d h = omega arith

-- where x is at least 1, v is positive
pub rises-from-one : (x v : Float) → T (fits binary64 v) → le one x ≡ true → lt v (mul binary64 v x) ≡ true
    → lt nought v ≡ true
rises-from-one x nan F h r = absurd (false≢true (unfold mul lt in r))
rises-from-one x (inf s) F h r = absurd (false≢true (sym (inf-stays s x (one-above-zero x h)) ∙ r))
rises-from-one x (fin s zero e) F h r = absurd (false≢true (sym (zero-stays s e x) ∙ r))
rises-from-one x (fin false (suc m) e) F h r =
    unfold lt of_bits in lt-ltb (0 * down e) (suc m * up e * 1) (some_size m (up e) (down e) (up_pos e))
rises-from-one nan (fin true (suc m) e) F h r = absurd (false≢true (unfold le lt eq of_bits in h))
rises-from-one (inf true) (fin true (suc m) e) F h r = absurd (false≢true (unfold le lt eq of_bits in h))
rises-from-one (inf false) (fin true (suc m) e) F h r =
    absurd (false≢true (sym (falls (eqb (suc m) 0)) ∙ unfold mul in r))
  where
    falls : (b : Bool) → lt (fin true (suc m) e) (cond b nan (inf true)) ≡ false
    falls true = unfold lt in refl
    falls false = unfold lt in refl
rises-from-one (fin true n d) (fin true (suc m) e) F h r =
    absurd (false≢true (unfold lt of_bits in one-above-zero (fin true n d) h))
rises-from-one (fin false n d) (fin true (suc m) e) F h r =
    absurd (false≢true (sym (no-rise (suc m) e n d F (at_least_one n d h)) ∙ r))

-- where x is above 0 and at most 1, v is negative
pub rises-to-one : (x v : Float) → T (fits binary64 v) → lt nought x ≡ true → le x one ≡ true
    → lt v (mul binary64 v x) ≡ true → lt v nought ≡ true
rises-to-one x nan F p h r = absurd (false≢true (unfold mul lt in r))
rises-to-one x (inf s) F p h r = absurd (false≢true (sym (inf-stays s x p) ∙ r))
rises-to-one x (fin s zero e) F p h r = absurd (false≢true (sym (zero-stays s e x) ∙ r))
rises-to-one x (fin true (suc m) e) F p h r =
    unfold lt of_bits in lt-ltb 0 (suc m * up e * 1 + 0 * down e)
    (under (suc m * up e * 1) (down e) (some_size m (up e) (down e) (up_pos e)))
  where
    under : (n d : ℕ) → 0 * d < n → 0 < n + 0 * d
    under n d h = omega arith
rises-to-one nan (fin false (suc m) e) F p h r = absurd (false≢true (unfold lt of_bits in p))
rises-to-one (inf true) (fin false (suc m) e) F p h r = absurd (false≢true (unfold lt of_bits in p))
rises-to-one (inf false) (fin false (suc m) e) F p h r = absurd (false≢true (unfold le lt eq of_bits in h))
rises-to-one (fin true n d) (fin false (suc m) e) F p h r = absurd (false≢true (unfold lt of_bits in p))
rises-to-one (fin false n d) (fin false (suc m) e) F p h r =
    absurd (false≢true (sym (no-growth (suc m) e n d F (at_most_one n d h)) ∙ r))
