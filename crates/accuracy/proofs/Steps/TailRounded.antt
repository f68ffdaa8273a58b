-- exp_tail on every |r| ≤ 0.011: the rounded result is the exact polynomial up to 2 ^ -64, for r of either sign.
-- Assumes nothing.
use Rattle.accuracy.proofs.Prelude.{◌≡◌, refl, sym, true, false, ℕ, ◌+◌, ◌-◌, ◌*◌, ◌^◌, ◌≤◌, arith, lit≤}
use native.Mathlib.Nat.{le_of_eq, mul-le-mul_right, mul-le-mul_left, sub-add_cancel}
use lib.Ieee.{Float}
use Rattle.routines.specs.Exp.{exp_tail}
use Rattle.accuracy.proofs.Rounding.AnyFormat.{Close}
use Rattle.accuracy.proofs.Rounding.Binary64.{L, e, Is, halves}
use Rattle.accuracy.proofs.Steps.TailErrors.{inner-plus, inner-minus, outer-plus, outer-minus}
use Rattle.accuracy.proofs.Steps.PolynomialNear.{S, c3, c4, c5, c6}
use Rattle.accuracy.proofs.Steps.TailOperations.{Result, l, S-l, zed, one, two, three, four, five, six, seven, eight}
use Rattle.accuracy.proofs.Steps.TailOperations.{six-close, eight-close, finish}

-- the polynomial's parts
abbrev pub Q6 : ℕ → ℕ
Q6 R = c4 * (L * L) + c5 * (R * L) + c6 * (R * R)

abbrev pub Q8 : ℕ → ℕ
Q8 R = S * L * (L * L) * (2 ^ 79 * e) + c3 * R * (L * (L * L)) + R * R * Q6 R

abbrev pub N6 : ℕ → ℕ
N6 R = c4 * (L * L) + c6 * (R * R) - c5 * (R * L)

abbrev pub N8 : ℕ → ℕ
N8 R = S * L * (L * L) * (2 ^ 79 * e) + R * R * N6 R - c3 * R * (L * (L * L))

-- ---- the two signs
c6-S : c6 ≤ S
c6-S = lit≤ tt

clean : (g x y w : ℕ) → Close (g + (0 + 0)) (x + y) w → Close g (x + y) w
clean g x y w h = (omega (arith, h.0), omega (arith, h.1))

clean' : (g z x w : ℕ) → Close (g + (0 + z)) (x + 0) w → Close (g + z) x w
clean' g z x w h = (omega (arith, h.0), omega (arith, h.1))

pub exp_tail-plus : (r : Float) (R : ℕ) → Is r false R → 1000 * R ≤ 11 * L → Result (exp_tail r) (R * R * Q8 R)
exp_tail-plus r R hr small =
    let Z = zed r false R hr small in
    let s1 = one r false R hr small in
    let s2 = two r false R hr small in
    let s3 = three r false R hr small in
    let s4 = four r false R hr small in
    let s5 = five r false R hr small in
    let s6 = six r false R hr small in
    let s7 = seven r false R hr small in
    let s8 = eight r false R hr small in
    finish r false R hr small (Q6 R) (Q8 R)
    (inner-plus S l L R Z.0 s3.0 s4.0 s5.0 s6.0 c4 c5 c6 (2 ^ 22 * e) (2 ^ 14 * e) S-l c6-S Z.2
    s3.2 s5.2 (six-close r false R hr small) (Q6 R) refl
    (clean s4.0 (c4 * l) s3.0 (2 ^ 22 * e) s4.2))
    (λ (d : ℕ) (t7 : Close (S * L * (L * L) * s7.0) (R * R * Q6 R) (S * L * (L * L) * d)). outer-plus S L R s1.0
    s2.0 s7.0 s8.0 c3 (2 ^ 79 * e) (2 ^ 26 * e) (2 ^ 18 * e) d (R * R * Q6 R) s1.2 t7
    (eight-close r false R hr small) (Q8 R) refl (clean s2.0 (2 ^ 79 * e) s1.0 (2 ^ 26 * e) s2.2))

-- the differences do not stop at 0
pub N6-is : (R : ℕ) → 1000 * R ≤ 11 * L → N6 R + c5 * (R * L) ≡ c4 * (L * L) + c6 * (R * R)
N6-is R h = sub-add_cancel (le L R (mul-le-mul_right L h))
  where
    le : (L R : ℕ) → 1000 * R * L ≤ 11 * L * L → c5 * (R * L) ≤ c4 * (L * L) + c6 * (R * R)
    le L R h = omega arith

pub N8-is : (R : ℕ) → 1000 * R ≤ 11 * L → N8 R + c3 * R * (L * (L * L)) ≡ S * L * (L * L) * (2 ^ 79 * e) + R * R * N6 R
N8-is R h = sub-add_cancel (le L R (2 ^ 79 * e) (R * R * N6 R) (mul-le-mul_right (L * (L * L)) h)
    (mul-le-mul_left (S * L * (L * L)) (le_of_eq (sym halves))))
  where
    le : (L R H z : ℕ) → 1000 * R * (L * (L * L)) ≤ 11 * L * (L * (L * L))
        → S * L * (L * L) * L ≤ S * L * (L * L) * (2 * H) → c3 * R * (L * (L * L)) ≤ S * L * (L * L) * H + z
    le L R H z h k = omega arith

pub exp_tail-minus : (r : Float) (R : ℕ) → Is r true R → 1000 * R ≤ 11 * L → Result (exp_tail r) (R * R * N8 R)
exp_tail-minus r R hr small =
    let Z = zed r true R hr small in
    let s1 = one r true R hr small in
    let s2 = two r true R hr small in
    let s3 = three r true R hr small in
    let s4 = four r true R hr small in
    let s5 = five r true R hr small in
    let s6 = six r true R hr small in
    let s7 = seven r true R hr small in
    let s8 = eight r true R hr small in
    finish r true R hr small (N6 R) (N8 R)
    (inner-minus S l L R Z.0 s3.0 s4.0 s5.0 s6.0 c4 c5 c6 (2 ^ 22 * e) (2 ^ 14 * e) S-l c6-S Z.2
    s3.2 s5.2 (six-close r true R hr small) (N6 R) (N6-is R small)
    (clean' s4.0 s3.0 (c4 * l) (2 ^ 22 * e) s4.2))
    (λ (d : ℕ) (t7 : Close (S * L * (L * L) * s7.0) (R * R * N6 R) (S * L * (L * L) * d)). outer-minus S L R s1.0
    s2.0 s7.0 s8.0 c3 (2 ^ 79 * e) (2 ^ 26 * e) (2 ^ 18 * e) d (R * R * N6 R) s1.2 t7
    (eight-close r true R hr small) (N8 R) (N8-is R small)
    (clean' s2.0 s1.0 (2 ^ 79 * e) (2 ^ 26 * e) s2.2))
