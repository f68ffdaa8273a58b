-- What the layers above cite of floats and their units: one rounded addition of `f64` values that are not negative is
-- within 2 ^ -53 of its result of the exact sum, and is no less than either. Assumes nothing.
use Rattle.std.proofs.Common.{◌≡◌, ℕ, ◌+◌, ◌*◌, ◌^◌, ◌<◌, ◌≤◌, false, sym, ap, ◌∙◌, subst, mul-le-mul_right, arith}
use Rattle.std.proofs.Common.{pow_pos}
use native.Mathlib.Nat.{eq_of_mul-eq-mul_right}
use lib.Ieee.{Float, nan, inf, fin, binary64, low, down, round, add}
use lib.Ieee.Exact.{round_exact}
use lib.Ieee.Fits.{add-fits, down_pos}
use lib.Ieee.Order.{round_mono}
use lib.Ieee.Scale.{overflow}
use Rattle.routines.specs.Units.{units_of, NonNegative, Within, Off}
use Rattle.routines.proofs.Rounding.{rounded, rounded-back}
use Rattle.routines.proofs.Sizes.{in-units}
use Rattle.routines.proofs.Values.{Holds, has-units, holds-units, units-held, of-value, round-holds, add_holds}
use Rattle.routines.proofs.Compared.{le_is}

-- what a value holds, rounded, is itself; so no more units are rounded to less
least : (x : Float) (n : ℕ) → NonNegative binary64 x → units_of x ≤ n → n * 2 < overflow binary64
    → units_of x ≤ rounded binary64 n
least nan n p h o = absurd p.known
least (inf s) n p h o = absurd p.known
least (fin s m e) n p h o =
    let L = 2 ^ low binary64 in
    let a = units_of (fin s m e) in
    let u = in-units s m e p.held in
    let same : a ≡ m * 2 ^ u.0 = eq_of_mul-eq-mul_right (down e) (down_pos e) a (m * 2 ^ u.0)
    (sym (has-units binary64 (fin s m e) p.held tt) ∙ u.2) in
    let own : Holds binary64 (round binary64 false a L) a = of-value binary64 (round binary64 false a L) false a
    (round_exact binary64 false a L m u.0 (pow_pos (low binary64)) u.1 u.3 (ap (λ (z : ℕ). z * L) same))
    (λ (t : ⊥). absurd t) in
    (le_is binary64 (round binary64 false a L) (round binary64 false n L) a (rounded binary64 n) own
    (round-holds binary64 false n o (λ (t : ⊥). absurd t))).0
    (round_mono binary64 a L n L (pow_pos (low binary64)) (pow_pos (low binary64)) (mul-le-mul_right L h))

-- ---- THE SUM
-- `overflow binary64` is 2 ^ 1024 in units: twice the exact sum is to be below it
module _ (x y : Float) (p : NonNegative binary64 x) (q : NonNegative binary64 y)
    (o : (units_of x + units_of y) * 2 < overflow binary64) where
  held : Holds binary64 (add binary64 x y) (rounded binary64 (units_of x + units_of y))
  held =
      add_holds binary64 x y (units_of x) (units_of y) (holds-units binary64 x p) (holds-units binary64 y q) o

  pub sum-within : Within (units_of x + units_of y) (add binary64 x y)
  sum-within =
      let n = units_of x + units_of y in
      let s = add binary64 x y in
      let w : Off (2 ^ 53) n (units_of s) = subst (λ (u : ℕ). Off (2 ^ 53) n u)
      (sym (units-held binary64 s (rounded binary64 n) held)) (rounded-back binary64 n) in
      record {
        value = record { held = add-fits binary64 x y; known = held.known; sign = held.sign };
        over = w.1;
        under = w.0;
      }

  pub sum-grows : units_of x ≤ units_of (add binary64 x y)
  sum-grows =
      let n = units_of x + units_of y in
      rw (units-held binary64 (add binary64 x y) (rounded binary64 n) held) (least x n p (first (units_of x) (units_of y)) o)
    where
      first : (a b : ℕ) → a ≤ a + b
      first a b = omega arith
