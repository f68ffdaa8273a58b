-- lgamma at 0, at -0 and at every negative whole number is +inf. Assumes nothing.
use Rattle.std.proofs.Common.{◌≡◌, ℕ, ◌+◌, ◌*◌, ◌/◌, ◌≤◌, Bool, true, false, ◌&&◌, ◌||◌, T, eqb, ltb, ℤ, refl, ap}
use Rattle.std.proofs.Common.{◌∙◌, zero-mul, mul-div_cancel, arith, ltb-false}
use lib.Dec.{eqb_refl}
use lib.Ieee.{inf, fin, binary64, up, down, of_bits, neg, lt, le, eq, fits}
use lib.Ieee.Bits.{is_true}
use lib.Ieee.Fits.{down_pos}
use Rattle.routines.specs.Constants.{zero as nought}
use Rattle.routines.specs.Signs.{zero_with}
use Rattle.routines.specs.Whole.{floor_of}
use Rattle.routines.specs.Lgamma.{lgamma_of, below_zero}
use Rattle.routines.proofs.Sizes.{as-it-is}

pub lgamma-zero : (s : Bool) → lgamma_of (zero_with s) ≡ inf false
unfolding lgamma_of below_zero floor_of of_bits neg lt le eq lib.Ieee.round
lgamma-zero true = refl
lgamma-zero false = refl

-- a value with the sign set is at most 0
at-most : (m : ℕ) (e : ℤ) → le (fin true m e) nought ≡ true
unfolding le lt eq of_bits
at-most m e = go (ltb 0 (m * up e * 1 + 0 * down e)) refl
  where
    none : (n d : ℕ) → n + 0 * d ≤ 0 → n ≡ 0
    none n d h = omega arith

    level : (a b : ℕ) → a ≡ 0 → b ≡ 0 → (eqb a b && eqb a 0) ≡ true
    level a b p q = rw (p, q)

    go : (t : Bool) → ltb 0 (m * up e * 1 + 0 * down e) ≡ t
        → (t || (eqb (m * up e * 1) (0 * down e) && eqb (m * up e * 1) 0)) ≡ true
    go true h = refl
    go false h =
        level (m * up e * 1) (0 * down e) (none (m * up e * 1) (down e) (ltb-false 0 (m * up e * 1 + 0 * down e) h))
        (zero-mul (down e))

same : (m : ℕ) (e : ℤ) → eq (fin false m e) (fin false m e) ≡ true
unfolding eq
same m e =
    ap (λ (b : Bool). b && true) (is_true (eqb (m * up e * down e) (m * up e * down e)) (eqb_refl (m * up e * down e)))

-- THE POLES: x is -m 2^e, and that is the whole number -c
pub lgamma-pole : (m : ℕ) (e : ℤ) (c : ℕ) → T (fits binary64 (fin true m e)) → m * up e ≡ c * down e
    → lgamma_of (fin true m e) ≡ inf false
unfolding lgamma_of below_zero floor_of neg
lgamma-pole m e c F v = rw (at-most m e, whole, same m e)
  where
    part : m * up e / down e ≡ c
    part = ap (λ (z : ℕ). z / down e) v ∙ mul-div_cancel c (down_pos e)

    whole : lib.Ieee.round binary64 false (m * up e / down e) 1 ≡ fin false m e
    whole = ap (λ (z : ℕ). lib.Ieee.round binary64 false z 1) part ∙ as-it-is false m e c (unfold fits in F) v
