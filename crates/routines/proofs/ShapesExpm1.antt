-- On which side of 0 and -1 expm1 lies, for every input. Assumes nothing.
use Rattle.std.proofs.Common.{◌≡◌, ℕ, ◌+◌, ◌*◌, ◌<◌, Bool, true, false, cond, eqb, refl, ⊎_elim, arith, eqb→eq, lt-ltb}
use mathlib.Core.Bool.{false≢true}
use lib.Ieee.{Float, nan, inf, fin, up, down, of_bits, neg, lt, le, eq}
use lib.Ieee.Fits.{down_pos, and_l}
use Rattle.routines.specs.Held.{at_least}
use Rattle.routines.specs.Constants.{zero as nought, minus_one}
use Rattle.routines.specs.Exp.{exp_of}
use Rattle.routines.specs.Expm1.{expm1_of, tee_m, less_one, beside_minus_one, far_out, LEAST, MOST}
use Rattle.routines.proofs.Orders.{less-le, le_split, at-most-le, at-least-ge, at-most-has, not-below}
use Rattle.routines.proofs.Orders.{one-above-zero}
use Rattle.routines.proofs.Tests.{yes}
use Rattle.routines.proofs.Shapes.{zero-level, exp-at-least-one}

-- what holds of a zero itself, of the last step, whatever it is given, and far out, holds of expm1
expm1-by : (x : Float) (P : Float → Type 0) → (eq x nought ≡ true → P x) → ((v : Float) → P (beside_minus_one x v))
    → P (far_out x) → P (expm1_of x)
unfolding expm1_of
expm1-by x P level inside outside = go (eq x nought) refl (le LEAST (tee_m x)) (le (tee_m x) MOST)
  where
    go : (t : Bool) → eq x nought ≡ t → (a b : Bool)
        → P (cond t x (cond a (cond b (beside_minus_one x (less_one x (tee_m x))) (far_out x)) (far_out x)))
    go true e a b = level e
    go false e true true = inside (less_one x (tee_m x))
    go false e true false = outside
    go false e false b = outside

minus-one-level : le minus_one minus_one ≡ true
unfolding le lt eq neg of_bits
minus-one-level = refl

minus-one-below : le minus_one nought ≡ true
unfolding le lt eq neg of_bits
minus-one-below = refl

-- a zero is above -1
level-above : (x : Float) → eq x nought ≡ true → le minus_one x ≡ true
unfolding eq neg of_bits
level-above nan h = absurd (false≢true h)
level-above (inf s) h = absurd (false≢true h)
level-above (fin true m e) h =
    less-le minus_one (fin true m e)
    (unfold lt in lt-ltb (m * up e * 1) (1 * down e)
    (under (m * up e * 1) (down e) (down_pos e)
    (eqb→eq (m * up e * 1) (0 * down e) (and_l (eqb (m * up e * 1) (0 * down e)) (eqb (m * up e * 1) 0) (yes h)))))
  where
    under : (n d : ℕ) → 0 < d → n ≡ 0 * d → n < 1 * d
    under n d k h = omega arith
level-above (fin false m e) h =
    less-le minus_one (fin false m e)
    (unfold lt in lt-ltb 0 (1 * down e + m * up e * 1) (over (m * up e * 1) (down e) (down_pos e)))
  where
    over : (n d : ℕ) → 0 < d → 0 < 1 * d + n
    over n d k = omega arith

-- a zero stays as it is
at_level : (x : Float) (P : Float → Type 0) → eq x nought ≡ true → P x → P (expm1_of x)
unfolding expm1_of
at_level x P l p = rw l p

pub expm1-at-least-zero : (x : Float) → le nought x ≡ true → le nought (expm1_of x) ≡ true
unfolding beside_minus_one far_out
expm1-at-least-zero x h =
    expm1-by x (λ (r : Float). le nought r ≡ true) (λ e. h) (λ v. rw (not-below x h) (at-least-ge v nought zero-level))
    (rw (not-below x h, h) (less-le nought (exp_of x) (one-above-zero (exp_of x) (exp-at-least-one x h))))

pub expm1-at-most-zero : (x : Float) → le x nought ≡ true → le (expm1_of x) nought ≡ true
unfolding beside_minus_one far_out
expm1-at-most-zero x h = ⊎_elim below (λ l. at_level x AtMost l h) (le_split x nought h)
  where
    AtMost : Float → Type 0
    AtMost r = le r nought ≡ true

    below : lt x nought ≡ true → AtMost (expm1_of x)
    below l =
        expm1-by x AtMost (λ e. h) (λ v. rw l (at-most-le (at_least v minus_one) nought zero-level))
        (rw l minus-one-below)

pub expm1-at-least-minus-one : (x : Float) → le x nought ≡ true → le minus_one (expm1_of x) ≡ true
unfolding beside_minus_one far_out
expm1-at-least-minus-one x h = ⊎_elim below (λ l. at_level x AtLeast l (level-above x l)) (le_split x nought h)
  where
    AtLeast : Float → Type 0
    AtLeast r = le minus_one r ≡ true

    below : lt x nought ≡ true → AtLeast (expm1_of x)
    below l =
        expm1-by x AtLeast (level-above x)
        (λ v. rw l
        (at-most-has AtLeast (at_least v minus_one) nought (λ e. at-least-ge v minus_one minus-one-level) minus-one-below))
        (rw l minus-one-level)
