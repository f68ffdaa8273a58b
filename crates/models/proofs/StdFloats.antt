-- What std's methods of floats give, in the words of the definitions. Assumes nothing.
use Prim.Native.Nat.{◌*◌}
use mathlib.Core.Path.{◌≡◌, refl, sym, ap}
use mathlib.Core.Bool.{Bool, true, false, cond, true≢false}
use native.Mathlib.Omega.{arith}
use borrow.Author.Tests.{eq-eqb, ltb-true, ltb-false}
use lib.Dec.{T, eqb, eqb→eq}
use lib.IntN.{pos}
use lib.Ieee.{Float, nan, inf, fin, binary64, up, down, neg, lt, eq, fits, of_bits}
use lib.Ieee.Back.{whole_unique}
use lib.Ieee.Fits.{and_l}
use Rattle.std.specs.Float.{float_with_sign}
use Rattle.std.proofs.lemmas.Float.{T_from_true}
use Rattle.routines.specs.Constants.{zero}
use Rattle.models.specs.Fits.{abs_of}

-- ---- the sign off
below : (x : Float) → lt x zero ≡ true → float_with_sign false x ≡ neg x
unfolding lt neg float_with_sign of_bits
below nan h = refl
below (inf true) h = refl
below (inf false) h = absurd (true≢false (sym h))
below (fin true m e) h = refl
below (fin false m e) h = absurd (omega (arith, ltb-true _ _ h))

level : (x : Float) → T (fits binary64 x) → eq x zero ≡ true → float_with_sign false x ≡ zero
unfolding eq float_with_sign fits of_bits
level nan f h = absurd (true≢false (sym h))
level (inf s) f h = absurd (true≢false (sym h))
level (fin s m e) f h =
    let z : m * up e * 1 ≡ 0 * 1 * down e =
    eqb→eq _ _ (and_l (eqb (m * up e * 1) (0 * 1 * down e)) _ (T_from_true _ h)) in
    ap (float_with_sign false)
    (whole_unique binary64 (fin s m e) (fin s 0 (pos 0)) s 0 f tt (refl, omega arith) (refl, refl))

above : (x : Float) → lt x zero ≡ false → eq x zero ≡ false → float_with_sign false x ≡ x
unfolding lt eq float_with_sign of_bits
above nan h k = refl
above (inf true) h k = absurd (true≢false h)
above (inf false) h k = refl
above (fin true m e) h k =
    let z : m * up e * 1 ≡ 0 = omega (arith, ltb-false _ _ h) in
    absurd (true≢false (rw (eq-eqb (m * up e * 1) (0 * 1 * down e) (omega arith), eq-eqb (m * up e * 1) 0 z) at k))
above (fin false m e) h k = refl

pub size-is : (x : Float) → T (fits binary64 x) → float_with_sign false x ≡ abs_of x
unfolding abs_of
size-is x f = go (lt x zero) (eq x zero) (below x) (level x f) (above x)
  where
    go : (a b : Bool) → (a ≡ true → float_with_sign false x ≡ neg x) → (b ≡ true → float_with_sign false x ≡ zero)
        → (a ≡ false → b ≡ false → float_with_sign false x ≡ x)
        → float_with_sign false x ≡ cond a (neg x) (cond b zero x)
    go true b p q r = p refl
    go false true p q r = q refl
    go false false p q r = r refl refl
