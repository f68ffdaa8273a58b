-- THE SPECIAL VALUES of exp, ln, expm1 and lgamma, to be read beside ISO C, Annex F (F.10.3.1, F.10.3.3, F.10.3.7,
-- F.10.5.3), and then on which side of 0, 1 and -1 each value lies.
-- `nan` is every NaN, `inf true` is -inf, `zero_with true` is -0, and `fin true m e` is -m * 2 ^ e. Every input is an
-- `f64`, which is what `fits binary64 x` says. Assumes nothing.
use Rattle.std.proofs.Common.{◌≡◌, ℕ, ◌*◌, Bool, true, false, not, T, ℤ}
use lib.Ieee.{Float, nan, inf, fin, binary64, up, down, lt, le, fits, is_nan}
use Rattle.routines.specs.Signs.{sign_clear, zero_with}
use Rattle.routines.specs.Constants.{zero, one, minus_one, two}
use Rattle.routines.specs.Exp.{exp_of}
use Rattle.routines.specs.Ln.{ln_of}
use Rattle.routines.specs.Expm1.{expm1_of}
use Rattle.routines.specs.Lgamma.{lgamma_of}
use Rattle.routines.proofs.Special as special
use Rattle.routines.proofs.Poles as poles
use Rattle.routines.proofs.Shapes as shapes
use Rattle.routines.proofs.ShapesExpm1 as shapes-expm1
use Rattle.routines.proofs.ShapesLn as shapes-ln

-- ---- exp (F.10.3.1)
pub exp-zero : (s : Bool) → exp_of (zero_with s) ≡ one
exp-zero = special.exp-zero

pub exp-minus-inf : exp_of (inf true) ≡ zero_with false
exp-minus-inf = special.exp-minus-inf

pub exp-inf : exp_of (inf false) ≡ inf false
exp-inf = special.exp-inf

pub exp-nan : exp_of nan ≡ nan
exp-nan = special.exp-nan

-- exp is never negative: a NaN or the sign clear, so never -0 either; and a NaN only at a NaN
pub exp-clear : (x : Float) → sign_clear (exp_of x) ≡ true
exp-clear = shapes.exp-clear

pub exp-number : (x : Float) → T (not (is_nan x)) → T (not (is_nan (exp_of x)))
exp-number = shapes.exp-number

pub exp-at-most-one : (x : Float) → T (fits binary64 x) → le x zero ≡ true → le (exp_of x) one ≡ true
exp-at-most-one = shapes.exp-at-most-one

pub exp-at-least-one : (x : Float) → le zero x ≡ true → le one (exp_of x) ≡ true
exp-at-least-one = shapes.exp-at-least-one

-- ---- ln (F.10.3.7)
pub ln-zero : (s : Bool) → ln_of (zero_with s) ≡ inf true
ln-zero = special.ln-zero

pub ln-one : ln_of one ≡ zero_with false
ln-one = special.ln-one

-- -inf included
pub ln-below-zero : (x : Float) → lt x zero ≡ true → ln_of x ≡ nan
ln-below-zero = shapes-ln.ln-below-zero

pub ln-inf : ln_of (inf false) ≡ inf false
ln-inf = special.ln-inf

pub ln-nan : ln_of nan ≡ nan
ln-nan = special.ln-nan

pub ln-at-least-zero : (x : Float) → le one x ≡ true → le zero (ln_of x) ≡ true
ln-at-least-zero = shapes-ln.ln-at-least-zero

pub ln-at-most-zero : (x : Float) → lt zero x ≡ true → le x one ≡ true → le (ln_of x) zero ≡ true
ln-at-most-zero = shapes-ln.ln-at-most-zero

pub ln-not-minus-zero : (x : Float) (e : ℤ) → ln_of x ≡ fin true 0 e → ⊥
ln-not-minus-zero = shapes-ln.ln-not-minus-zero

-- ---- expm1 (F.10.3.3)
pub expm1-zero : (s : Bool) → expm1_of (zero_with s) ≡ zero_with s
expm1-zero = special.expm1-zero

pub expm1-minus-inf : expm1_of (inf true) ≡ minus_one
expm1-minus-inf = special.expm1-minus-inf

pub expm1-inf : expm1_of (inf false) ≡ inf false
expm1-inf = special.expm1-inf

pub expm1-nan : expm1_of nan ≡ nan
expm1-nan = special.expm1-nan

pub expm1-at-least-minus-one : (x : Float) → le x zero ≡ true → le minus_one (expm1_of x) ≡ true
expm1-at-least-minus-one = shapes-expm1.expm1-at-least-minus-one

pub expm1-at-most-zero : (x : Float) → le x zero ≡ true → le (expm1_of x) zero ≡ true
expm1-at-most-zero = shapes-expm1.expm1-at-most-zero

pub expm1-at-least-zero : (x : Float) → le zero x ≡ true → le zero (expm1_of x) ≡ true
expm1-at-least-zero = shapes-expm1.expm1-at-least-zero

-- ---- lgamma (F.10.5.3)
pub lgamma-one : lgamma_of one ≡ zero_with false
lgamma-one = special.lgamma-one

pub lgamma-two : lgamma_of two ≡ zero_with false
lgamma-two = special.lgamma-two

pub lgamma-zero : (s : Bool) → lgamma_of (zero_with s) ≡ inf false
lgamma-zero = poles.lgamma-zero

-- every negative whole number -c
pub lgamma-pole : (m : ℕ) (e : ℤ) (c : ℕ) → T (fits binary64 (fin true m e)) → m * up e ≡ c * down e
    → lgamma_of (fin true m e) ≡ inf false
lgamma-pole = poles.lgamma-pole

pub lgamma-inf : (s : Bool) → lgamma_of (inf s) ≡ inf false
lgamma-inf = special.lgamma-inf

pub lgamma-nan : lgamma_of nan ≡ nan
lgamma-nan = special.lgamma-nan
