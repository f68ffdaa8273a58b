-- The difference of two values that are level, one of them finite, is a zero; so its exponential is 1. Assumes nothing.
use Rattle.std.proofs.Common.{◌≡◌, ℕ, ◌+◌, ◌-◌, ◌*◌, ◌<◌, Bool, true, false, not, ◌&&◌, ◌||◌, eqb, pos, sym, ap, ◌∙◌}
use Rattle.std.proofs.Common.{le_of_eq, mul-pos, arith, eqb→eq, le-ltb}
use mathlib.Core.Bool.{beq, false≢true}
use lib.Ieee.{Float, nan, inf, fin, binary64, up, down, sum, neg, sub, eq}
use lib.Ieee.Fits.{down_pos, and_l, and_r}
use lib.Ieee.Scale.{finite}
use Rattle.routines.specs.Constants.{one}
use Rattle.routines.specs.Exp.{exp_of}
use Rattle.routines.proofs.Tests.{yes}
use Rattle.routines.proofs.Products.{zero-rounds}
use Rattle.routines.proofs.Special.{exp-zero}

-- a - a, by signs
same_sign : (s : Bool) (A B c : ℕ) → 0 < c → A ≡ B → sum binary64 s A (not s) B c ≡ fin false 0 (pos 0)
unfolding sum
same_sign true A B c C e =
    rw (le-ltb A B (le_of_eq (sym e)), le-ltb B A (le_of_eq e)) (zero-rounds false (A - B) c C (none A B e))
  where
    none : (A B : ℕ) → A ≡ B → A - B ≡ 0
    none A B e = omega arith
same_sign false A B c C e = rw (le-ltb A B (le_of_eq (sym e))) (zero-rounds false (A - B) c C (none A B e))
  where
    none : (A B : ℕ) → A ≡ B → A - B ≡ 0
    none A B e = omega arith

other_sign : (s : Bool) (A B c : ℕ) → 0 < c → A ≡ B → A ≡ 0 → sum binary64 s A s B c ≡ fin s 0 (pos 0)
unfolding sum
other_sign true A B c C e z = zero-rounds true (A + B) c C (none A B e z)
  where
    none : (A B : ℕ) → A ≡ B → A ≡ 0 → A + B ≡ 0
    none A B e z = omega arith
other_sign false A B c C e z = zero-rounds false (A + B) c C (none A B e z)
  where
    none : (A B : ℕ) → A ≡ B → A ≡ 0 → A + B ≡ 0
    none A B e z = omega arith

level-sum : (s t : Bool) (A B c : ℕ) → 0 < c → (eqb A B && (beq s t || eqb A 0)) ≡ true
    → (u : Bool) × (sum binary64 s A (not t) B c ≡ fin u 0 (pos 0))
level-sum true true A B c C h = (false, same_sign true A B c C (eqb→eq A B (and_l (eqb A B) true (yes h))))
level-sum false false A B c C h = (false, same_sign false A B c C (eqb→eq A B (and_l (eqb A B) true (yes h))))
level-sum true false A B c C h = (
  true,
  other_sign true A B c C (eqb→eq A B (and_l (eqb A B) (eqb A 0) (yes h)))
      (eqb→eq A 0 (and_r (eqb A B) (eqb A 0) (yes h))),
)
level-sum false true A B c C h = (
  false,
  other_sign false A B c C (eqb→eq A B (and_l (eqb A B) (eqb A 0) (yes h)))
      (eqb→eq A 0 (and_r (eqb A B) (eqb A 0) (yes h))),
)

pub level-difference : (x m : Float) → eq x m ≡ true → finite m ≡ true → (u : Bool) × (sub binary64 x m ≡ fin u 0 (pos 0))
unfolding sub neg eq lib.Ieee.add
level-difference x nan h k = absurd (false≢true k)
level-difference x (inf t) h k = absurd (false≢true k)
level-difference nan (fin t n d) h k = absurd (false≢true h)
level-difference (inf s) (fin t n d) h k = absurd (false≢true h)
level-difference (fin s m e) (fin t n d) h k =
    level-sum s t (m * up e * down d) (n * up d * down e) (down e * down d) (mul-pos (down_pos e) (down_pos d)) h

pub exp-level : (x m : Float) → eq x m ≡ true → finite m ≡ true → one ≡ exp_of (sub binary64 x m)
exp-level x m h k =
    let z = level-difference x m h k in
    sym (ap exp_of z.1 ∙ exp-zero z.0)
