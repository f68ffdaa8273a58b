-- On which side of 0, 1 and -1 exp, ln and expm1 lie, for every input. Assumes nothing.
use Rattle.std.proofs.Common.{◌≡◌, Bool, true, false, cond, not, T, pos, sym, refl, ap, ◌∙◌, subst, ⊎_elim}
use lib.Ieee.{Float, inf, binary64, of_bits, lt, le, eq, is_nan, fits}
use lib.Ieee.Fits.{cond-fits, mul-fits, inf-fits, nan-fits}
use Rattle.routines.specs.Signs.{sign_clear}
use Rattle.routines.specs.Held.{at_least, at_most}
use Rattle.routines.specs.Constants.{one, zero as nought}
use Rattle.routines.specs.Exp.{exp_of, tee, scaled_up, beside_one, out_of_range, LEAST, MOST}
use Rattle.routines.proofs.Orders.{le_split, at-most-le, at-least-ge, at-most-has, at-least-has, above-clear}
use Rattle.routines.proofs.Orders.{less-number, more-number, not-below, neither, zero_is}
use Rattle.routines.proofs.Special.{exp-zero}

abbrev Clear : Float → Type 0
Clear r = sign_clear r ≡ true

abbrev Number : Float → Type 0
Number r = T (not (is_nan r))

-- ---- exp
-- what holds of the last step, whatever it is given, and out of range, holds of exp
exp-by : (x : Float) (P : Float → Type 0) → ((v : Float) → P (beside_one x v)) → P (out_of_range x) → P (exp_of x)
unfolding exp_of
exp-by x P inside outside = go (le LEAST (tee x)) (le (tee x) MOST)
  where
    go : (a b : Bool) → P (cond a (cond b (beside_one x (scaled_up x (tee x))) (out_of_range x)) (out_of_range x))
    go true true = inside (scaled_up x (tee x))
    go true false = outside
    go false b = outside

one-level : le one one ≡ true
unfolding le lt eq of_bits
one-level = refl

pub zero-level : le nought nought ≡ true
unfolding le lt eq of_bits
zero-level = refl

zero-below-one : le nought one ≡ true
unfolding le lt eq of_bits
zero-below-one = refl

one-below-inf : le one (inf false) ≡ true
unfolding le lt eq of_bits
one-below-inf = refl

pub exp-at-least-one : (x : Float) → le nought x ≡ true → le one (exp_of x) ≡ true
exp-at-least-one x h = exp-by x (λ (r : Float). le one r ≡ true) inside outside
  where
    inside : (v : Float) → le one (beside_one x v) ≡ true
    inside v = unfold beside_one in rw (not-below x h) (at-least-ge v one one-level)

    outside : le one (out_of_range x) ≡ true
    outside = unfold out_of_range in rw (not-below x h, h) one-below-inf

pub exp-at-most-one : (x : Float) → T (fits binary64 x) → le x nought ≡ true → le (exp_of x) one ≡ true
exp-at-most-one x F h = ⊎_elim below level (le_split x nought h)
  where
    below : lt x nought ≡ true → le (exp_of x) one ≡ true
    below l = exp-by x (λ (r : Float). le r one ≡ true) inside outside
      where
        inside : (v : Float) → le (beside_one x v) one ≡ true
        inside v = unfold beside_one in rw l (at-most-le (at_least v nought) one one-level)

        outside : le (out_of_range x) one ≡ true
        outside = unfold out_of_range in rw l zero-below-one

    level : eq x nought ≡ true → le (exp_of x) one ≡ true
    level l =
        let z = zero_is x F l in
        subst (λ (y : Float). le y one ≡ true) (sym (ap exp_of z.1 ∙ exp-zero z.0)) one-level

-- NaN or sign clear: never negative, and never -0
pub exp-clear : (x : Float) → sign_clear (exp_of x) ≡ true
unfolding beside_one out_of_range of_bits
exp-clear x =
    exp-by x (λ (r : Float). sign_clear r ≡ true) (λ (v : Float). inside (lt x nought) v)
    (outside (lt x nought) (le nought x) refl refl)
  where
    inside : (t : Bool) (v : Float) → Clear (cond t (at_most (at_least v nought) one) (at_least v one))
    inside true v =
        at-most-has Clear (at_least v nought) one (λ e. at-least-has Clear v nought (above-clear 0 (pos 0) v) refl) refl
    inside false v = at-least-has Clear v one (above-clear 1 (pos 0) v) refl

    outside : (t u : Bool) → lt x nought ≡ t → le nought x ≡ u → sign_clear (cond t nought (cond u (inf false) x)) ≡ true
    outside true u e k = refl
    outside false true e k = refl
    outside false false e k = ap sign_clear (neither x e k)

-- a NaN comes only of a NaN
pub exp-number : (x : Float) → T (not (is_nan x)) → T (not (is_nan (exp_of x)))
unfolding beside_one out_of_range of_bits is_nan
exp-number x n = exp-by x Number (λ (v : Float). inside (lt x nought) v) (outside (lt x nought) (le nought x))
  where
    inside : (t : Bool) (v : Float) → Number (cond t (at_most (at_least v nought) one) (at_least v one))
    inside true v = at-most-has Number (at_least v nought) one (less-number (at_least v nought) one) tt
    inside false v = at-least-has Number v one (more-number one v) tt

    outside : (t u : Bool) → Number (cond t nought (cond u (inf false) x))
    outside true u = tt
    outside false true = tt
    outside false false = n

-- it is an `f64`, whatever x is
abbrev Fits : Float → Type 0
Fits r = T (fits binary64 r)

beside-one-fits : (x v : Float) → Fits v → Fits (beside_one x v)
unfolding beside_one fits of_bits
beside-one-fits x v F =
    cond-fits binary64 (lt x nought) (at_most (at_least v nought) one) (at_least v one)
    (at-most-has Fits (at_least v nought) one (λ e. at-least-has Fits v nought (λ k. F) tt) tt)
    (at-least-has Fits v one (λ e. F) tt)

pub exp-fits : (x : Float) → T (fits binary64 (exp_of x))
unfolding exp_of scaled_up out_of_range
exp-fits x =
    let out : Fits (out_of_range x) = outside (lt x nought) (le nought x) refl refl in
    let near = beside-one-fits x (scaled_up x (tee x)) (mul-fits binary64 _ _) in
    cond-fits binary64 (le LEAST (tee x)) (cond (le (tee x) MOST) (beside_one x (scaled_up x (tee x))) (out_of_range x))
    (out_of_range x) (cond-fits binary64 (le (tee x) MOST) (beside_one x (scaled_up x (tee x))) (out_of_range x) near out) out
  where
    outside : (t u : Bool) → lt x nought ≡ t → le nought x ≡ u → Fits (cond t nought (cond u (inf false) x))
    outside true u e k = unfold fits of_bits in tt
    outside false true e k = inf-fits binary64 false
    outside false false e k = subst Fits (sym (neither x e k)) (nan-fits binary64)
