-- Which patterns are no NaN's, and which values are no NaN: what `f64::from_bits` and `f64::to_bits` ask. Assumes
-- nothing.
use Rattle.std.proofs.Common.{◌≡◌, ℕ, zero, suc, ◌+◌, ◌*◌, ◌/◌, ◌%◌, ◌^◌, ◌≤◌, Bool, true, false, cond, not, T, ltb}
use Rattle.std.proofs.Common.{ℤ, pos, sym, ◌∙◌, subst, true≢false, arith, le-ltb}
use mathlib.Core.Bool.{false≢true, ◌&&◌}
use mathlib.Core.Path.{refl, ap}
use lib.Count.{count_trailing_zeros}
use lib.Ieee.{Float, nan, inf, fin, Format, binary64, prec, emax, low, minus, odd, units, round, unlike, up, down, mul}
use lib.Ieee.{of_bits, nan_bits, is_nan, le, lt, eq, ne}
use borrow.Author.Tests.{eq-eqb}
use lib.Ieee.Compare.{nan_differs}
use lib.Ieee.Fits.{round_is}
use lib.Ieee.Bits.{nan_bits_above}
use Rattle.routines.specs.Constants.{zero as nought}
use Rattle.routines.specs.Ln.{SCALE}
use Rattle.routines.proofs.Tests.{no}

pub no_nan : (n : ℕ) → n % 2 ^ 63 ≤ 2047 * 2 ^ 52 → T (not (nan_bits binary64 n))
no_nan n h = no (nan_bits_above binary64 n ∙ le-ltb (2047 * 2 ^ 52) (n % 2 ^ 63) h)

-- an exponent's field alone
pub field-only : (q : ℕ) → T (not (nan_bits binary64 (q * 4503599627370496)))
field-only q = no_nan (q * 4503599627370496) (part q)
  where
    part : (q : ℕ) → q * 4503599627370496 % 2 ^ 63 ≤ 2047 * 2 ^ 52
    part q = omega arith

-- what a comparison found to be at least, or at most, something
pub least-no-nan : (a t : Float) → le a t ≡ true → T (not (is_nan t))
unfolding le lt is_nan
least-no-nan nan nan h = absurd (false≢true h)
least-no-nan (inf s) nan h = absurd (false≢true h)
least-no-nan (fin s m e) nan h = absurd (false≢true h)
least-no-nan a (inf s) h = tt
least-no-nan a (fin s m e) h = tt

-- ---- what is rounded is an infinity or a finite value with the sign given
units-are : (f : Format) (s : Bool) (q k : ℕ) (P : Float → Type 0) → P (inf s) → ((m : ℕ) (e : ℤ) → P (fin s m e))
    → P (units f s q k)
unfolding units odd
units-are f s q k P i g = go (ltb (q * 2 ^ k) (2 ^ (low f + suc (emax f)))) q
  where
    go : (b : Bool) (q : ℕ) → P (cond b (odd (suc (prec f)) s q k (low f)) (inf s))
    go true zero = g zero (pos zero)
    go true (suc q) =
        g (suc q / 2 ^ count_trailing_zeros (suc (prec f)) (suc q)) (minus (k + count_trailing_zeros (suc (prec f)) (suc q)) (low f))
    go false q = i

pub rounded-are : (f : Format) (s : Bool) (a d : ℕ) (P : Float → Type 0) → P (inf s) → ((m : ℕ) (e : ℤ) → P (fin s m e))
    → P (round f s a d)
rounded-are f s a d P i g = subst P (sym (round_is f s a d)) (units-are f s _ _ P i g)

pub round-no-nan : (f : Format) (s : Bool) (a d : ℕ) → T (not (is_nan (round f s a d)))
unfolding is_nan
round-no-nan f s a d = rounded-are f s a d (λ (x : Float). T (not (is_nan x))) tt (λ m e. tt)

-- a positive value times 2 ^ 54
pub positive-times : (x : Float) → lt nought x ≡ true → T (not (is_nan (mul binary64 x SCALE)))
unfolding lt of_bits mul is_nan
positive-times nan h = absurd (false≢true h)
positive-times (inf s) h = tt
positive-times (fin s m e) h = round-no-nan binary64 (unlike s false) (m * up e * (1 * 2 ^ 54)) (down e * 1)

-- what `x != x` found false
pub equal_no_nan : (x : Float) → ne x x ≡ false → T (not (is_nan x))
unfolding is_nan
equal_no_nan nan h = absurd (true≢false (sym nan_differs ∙ h))
equal_no_nan (inf s) h = tt
equal_no_nan (fin s m e) h = tt

-- only a NaN differs from itself
pub nan-is : (x : Float) → is_nan x ≡ ne x x
unfolding ne eq is_nan
nan-is nan = refl
nan-is (inf true) = refl
nan-is (inf false) = refl
nan-is (fin true m e) = sym (ap (λ (b : Bool). not (b && true)) (eq-eqb (m * up e * down e) _ refl))
nan-is (fin false m e) = sym (ap (λ (b : Bool). not (b && true)) (eq-eqb (m * up e * down e) _ refl))
