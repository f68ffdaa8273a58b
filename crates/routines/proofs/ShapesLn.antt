-- On which side of 0 ln lies, for every input; what it is below 0; and that it is never -0. Assumes nothing.
use Rattle.std.proofs.Common.{◌≡◌, ℕ, ◌+◌, ◌*◌, ◌<◌, ◌≤◌, Bool, true, false, cond, ◌&&◌, T, eqb, ℤ, sym, refl, ap}
use Rattle.std.proofs.Common.{◌∙◌, subst, true≢false, mul-le-mul_right, arith, lit≤, eqb→eq, ltb-true}
use mathlib.Core.Bool.{false≢true}
use lib.Ieee.{Float, nan, inf, fin, binary64, up, down, of_bits, mul, lt, le, eq, fits}
use lib.Ieee.Fits.{add-fits, cond-fits, inf-fits, nan-fits, down_pos}
use Rattle.routines.specs.Constants.{one, zero as nought}
use Rattle.routines.specs.Signs.{sign_clear}
use Rattle.routines.specs.Ln.{ln_of, ln_core, beside_zero, not_above_zero, NORMAL, LARGEST, SCALE, OFFSET}
use Rattle.routines.specs.Ln.{SCALED_OFFSET}
use Rattle.routines.proofs.Tests.{yes}
use Rattle.routines.proofs.Orders.{less-le, one-above-zero, above-clear}
use Rattle.routines.proofs.Shapes.{zero-level}
use Rattle.routines.proofs.Products.{rises-from-one, rises-to-one, zero-stays, or-le}

-- what holds of the last step, given any `f64`, of x itself where it is above the largest, and where x is not above 0,
-- holds of ln
ln-by : (x : Float) (P : Float → Type 0) → (lt LARGEST x ≡ true → P x)
    → ((v : Float) → T (fits binary64 v) → P (beside_zero x v)) → (lt nought x ≡ false → P (not_above_zero x)) → P (ln_of x)
unfolding ln_of
ln-by x P large inside outside = go (le NORMAL x) (lt LARGEST x) refl (lt nought x) refl
  where
    go : (a b : Bool) → lt LARGEST x ≡ b → (c : Bool) → lt nought x ≡ c
        → P (cond a (cond b x (beside_zero x (ln_core x OFFSET)))
        (cond c (beside_zero x (ln_core (mul binary64 x SCALE) SCALED_OFFSET)) (not_above_zero x)))
    go true true l c e = large l
    go true false l c e = inside (ln_core x OFFSET) (unfold ln_core in add-fits binary64 _ _)
    go false b l true e = inside (ln_core (mul binary64 x SCALE) SCALED_OFFSET) (unfold ln_core in add-fits binary64 _ _)
    go false b l false e = outside e

-- a property of the last step
beside-by : (x v : Float) (P : Float → Type 0) → (lt v (mul binary64 v x) ≡ true → P v) → P nought → P (beside_zero x v)
unfolding beside_zero
beside-by x v P f g = go (lt v (mul binary64 v x)) refl
  where
    go : (t : Bool) → lt v (mul binary64 v x) ≡ t → P (cond t v nought)
    go true e = f e
    go false e = g

pub ln-fits : (x : Float) → T (fits binary64 x) → T (fits binary64 (ln_of x))
ln-fits x F =
    ln-by x (λ (r : Float). T (fits binary64 r)) (λ l. F)
    (λ v G. beside-by x v (λ (r : Float). T (fits binary64 r)) (λ r. G) (unfold fits of_bits in tt))
    (λ l. cond-fits binary64 (eq x nought) (inf true) nan (inf-fits binary64 true) (nan-fits binary64))

-- what is at most 1 is not above the largest
not-large : (x : Float) → le x one ≡ true → lt LARGEST x ≡ true → ⊥
unfolding le lt eq of_bits
not-large nan h l = absurd (false≢true h)
not-large (inf true) h l = absurd (false≢true l)
not-large (inf false) h l = absurd (false≢true h)
not-large (fin true n d) h l = absurd (false≢true l)
not-large (fin false n d) h l =
    clash _ (n * up d) (down d) (lit≤ tt) (ltb-true _ (n * up d * 1) l) (or-le (n * up d * 1) (1 * down d) (yes h))
  where
    clash : (M a d : ℕ) → 1 ≤ M → M * d < a * 1 → a * 1 ≤ 1 * d → ⊥
    clash M a d p q r =
        let k : 1 * d ≤ M * d = mul-le-mul_right d p in
        omega arith

pub ln-at-least-zero : (x : Float) → le one x ≡ true → le nought (ln_of x) ≡ true
ln-at-least-zero x h =
    ln-by x P (λ l. less-le nought x (one-above-zero x h))
    (λ v F. beside-by x v P (λ r. less-le nought v (rises-from-one x v F h r)) zero-level)
    (λ l. absurd (true≢false (sym (one-above-zero x h) ∙ l)))
  where
    P : Float → Type 0
    P r = le nought r ≡ true

pub ln-at-most-zero : (x : Float) → lt nought x ≡ true → le x one ≡ true → le (ln_of x) nought ≡ true
ln-at-most-zero x p h =
    ln-by x P (λ l. absurd (not-large x h l))
    (λ v F. beside-by x v P (λ r. less-le v nought (rises-to-one x v F p h r)) zero-level)
    (λ l. absurd (true≢false (sym p ∙ l)))
  where
    P : Float → Type 0
    P r = le r nought ≡ true

-- ---- below 0, -inf included, ln is a NaN
-- what is below 0 is -inf, or finite with a size
below-are : (P : Float → Type 0) → P (inf true) → ((m : ℕ) (e : ℤ) → 0 < m * up e * 1 → P (fin true m e)) → (x : Float)
    → lt x nought ≡ true → P x
unfolding lt of_bits
below-are P i g nan h = absurd (false≢true h)
below-are P i g (inf true) h = i
below-are P i g (inf false) h = absurd (false≢true h)
below-are P i g (fin false m e) h = absurd (none (m * up e * 1) (down e) (ltb-true (m * up e * 1) (0 * down e) h))
  where
    none : (n d : ℕ) → n < 0 * d → ⊥
    none n d h = omega arith
below-are P i g (fin true m e) h = g m e (some (m * up e * 1) (down e) (ltb-true 0 (m * up e * 1 + 0 * down e) h))
  where
    some : (n d : ℕ) → 0 < n + 0 * d → 0 < n
    some n d h = omega arith

unequal : (a b : ℕ) → 0 < a → (eqb a b && eqb a 0) ≡ false
unequal a b h = go (eqb a b) (eqb a 0) (λ (t : T (eqb a 0)). none (eqb→eq a 0 t))
  where
    none : a ≡ 0 → ⊥
    none e = omega arith

    go : (c d : Bool) → (T d → ⊥) → (c && d) ≡ false
    go true true n = absurd (n tt)
    go true false n = refl
    go false d n = refl

not-normal : (x : Float) → lt x nought ≡ true → le NORMAL x ≡ false
not-normal =
    below-are (λ (x : Float). le NORMAL x ≡ false) (unfold le lt eq of_bits in refl)
    (λ m e h. unfold le lt eq of_bits in unequal (1 * 1 * down e) _ (size (down e) (down_pos e)))
  where
    size : (d : ℕ) → 0 < d → 0 < 1 * 1 * d
    size d h = omega arith

not-above : (x : Float) → lt x nought ≡ true → lt nought x ≡ false
not-above = below-are (λ (x : Float). lt nought x ≡ false) (unfold lt of_bits in refl) (λ m e h. unfold lt of_bits in refl)

not-level : (x : Float) → lt x nought ≡ true → eq x nought ≡ false
not-level =
    below-are (λ (x : Float). eq x nought ≡ false) (unfold eq of_bits in refl)
    (λ m e h. unfold eq of_bits in unequal (m * up e * 1) (0 * down e) h)

pub ln-below-zero : (x : Float) → lt x nought ≡ true → ln_of x ≡ nan
unfolding ln_of
ln-below-zero x h = rw (not-normal x h, not-above x h, not-level x h)

-- ---- never -0
pub ln-not-minus-zero : (x : Float) (e : ℤ) → ln_of x ≡ fin true 0 e → ⊥
ln-not-minus-zero x =
    ln-by x P large
    (λ v F. beside-by x v P
    (λ r e i. absurd
    (false≢true (sym (zero-stays true e x) ∙ subst (λ (y : Float). lt y (mul binary64 y x) ≡ true) i r))) plus)
    (λ l. outside (eq x nought))
  where
    P : Float → Type 0
    P r = (e : ℤ) → r ≡ fin true 0 e → ⊥

    large : lt LARGEST x ≡ true → P x
    large l e i = absurd (false≢true (subst (λ (y : Float). sign_clear y ≡ true) i (unfold of_bits in above-clear _ _ x l)))

    plus : P nought
    plus e i = absurd (true≢false (unfold of_bits in ap sign_clear i))

    outside : (b : Bool) → P (cond b (inf true) nan)
    outside true e i = let z : ◌≡◌ {A = ℕ} 0 1 = cc in absurd (never z)
      where
        never : ◌≡◌ {A = ℕ} 0 1 → ⊥
        never z = omega arith
    outside false e i = let z : ◌≡◌ {A = ℕ} 0 1 = cc in absurd (never z)
      where
        never : ◌≡◌ {A = ℕ} 0 1 → ⊥
        never z = omega arith
