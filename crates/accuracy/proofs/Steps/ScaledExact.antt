-- Steps 6 and 7: y = T[i] a is exact, for a = 2 ^ (E - 1023), and is a `Scaled`, as NearForIndex wants it.
-- Assumes nothing.
use Rattle.accuracy.proofs.Prelude.{◌≡◌, refl, sym, ap, ◌∙◌, subst, Bool, true, false, ◌&&◌, ℕ, suc, ◌+◌, ◌*◌}
use Rattle.accuracy.proofs.Prelude.{◌/◌, ◌^◌, ◌≤◌, ◌<◌, arith, T, leb, leb→le, ltb, ltb→lt, eqb, eqb→eq, pow_pos}
use Rattle.accuracy.proofs.Prelude.{pow-add, pow-lt}
use native.Mathlib.Nat.{mul_assoc, mul_comm, le_trans, le_of_eq, lt_of_le_of_lt, mul-le-mul_right, mul_right_comm}
use lib.Ieee.{Float, nan, inf, fin, binary64, of_bits, mul, up, down}
use lib.Ieee.Fits.{and_l, and_r}
use lib.Ieee.Positive.{num, den, positive}
use Rattle.routines.specs.Tables.{rows, value_in}
use Rattle.accuracy.proofs.Rounding.Binary64.{L, Is, bit}
use Rattle.accuracy.proofs.Steps.NearForIndex.{Scaled}
use Rattle.accuracy.proofs.Rounding.PowersOfTwo.{power-bits, mul-exact}
use Rattle.accuracy.proofs.Steps.TableNear.{row_at, each_row}
use Rattle.meaning.specs.Table.{wrong}
use mathlib.Core.List.{[]}

-- T's 53 digits
digits : Float → ℕ
digits x = num x * 2 ^ 52 / den x

positive-value : (x : Float) → T (positive x) → num x * 2 ^ 52 ≡ digits x * den x → Is x false (digits x * 2 ^ 1022)
unfolding L
positive-value nan t h = absurd t
positive-value (inf s) t h = absurd t
positive-value (fin true m e) t h = absurd t
positive-value (fin false m e) t h = (refl, turn (m * up e) (digits (fin false m e)) (down e) (2 ^ 52) (2 ^ 1022) h)
  where
    turn : (x q d a b : ℕ) → x * a ≡ q * d → x * (a * b) ≡ q * b * d
    turn x q d a b h = sym (mul_assoc x a b) ∙ ap (λ (z : ℕ). z * b) h ∙ mul_right_comm q d b

good : ℕ → ℕ × ℕ → Bool
unfolding digits
good i r = positive (value_in r) && (eqb (num (value_in r) * 2 ^ 52)
    (digits (value_in r) * den (value_in r)) && (leb (2 ^ 52) (digits (value_in r)) && ltb (digits (value_in r))
    (2 ^ 53)))

none-bad : wrong good 0 rows ≡ []
unfolding good digits rows of_bits
none-bad = refl

scaled-of : (t : Float) (q z : ℕ) → Is t false (q * 2 ^ 1022) → 2 ^ 52 ≤ q → q < 2 ^ 53 → z ≤ 2000
    → Scaled (mul binary64 t (of_bits binary64 (suc (7 + z) * 2 ^ 52))) (q * 2 ^ (7 + z)) (2 ^ z)
unfolding bit
scaled-of t q z h a b k = record {
  is = mul-exact t (of_bits binary64 (suc (7 + z) * 2 ^ 52)) q 1022 (52 + (7 + z)) (7 + z) h
      (subst (λ (x : ℕ). Is (of_bits binary64 (suc (7 + z) * 2 ^ 52)) false x) (sym (pow-add 2 52 (7 + z)))
      (power-bits (7 + z) (few z k))) (sum z) b
      (lt_of_le_of_lt size (pow-lt (under z k)));
  power = record { at = z; is = refl; low = low z k };
  from = le_trans (le_of_eq (ap (λ (x : ℕ). x * 2 ^ z) (num59) ∙ mul_assoc (2 ^ 52) (2 ^ 7) (2 ^ z)
      ∙ ap (λ (x : ℕ). 2 ^ 52 * x) (sym (pow-add 2 7 z)))) (mul-le-mul_right (2 ^ (7 + z)) a);
  to = le_trans (mul-le-mul_right (2 ^ (7 + z)) (le b))
      (le_of_eq (ap (λ (x : ℕ). 2 ^ 53 * x) (pow-add 2 7 z) ∙ sym (mul_assoc (2 ^ 53) (2 ^ 7) (2 ^ z))));
  pos = pow_pos z;
  top = lt_of_le_of_lt (le_trans (mul-le-mul_right 4 size)
      (le_of_eq (mul_comm (2 ^ (60 + z)) 4 ∙ sym (pow-add 2 2 (60 + z))))) (pow-lt (under' z k));
}
  where
    num59 : 2 ^ 59 ≡ 2 ^ 52 * 2 ^ 7
    num59 = refl

    few : (z : ℕ) → z ≤ 2000 → suc (7 + z) < 2047
    few z k = omega arith

    sum : (z : ℕ) → 1022 + (52 + (7 + z)) ≡ 7 + z + 1074
    sum z = omega arith

    under : (z : ℕ) → z ≤ 2000 → 60 + z < 2098
    under z k = omega arith

    under' : (z : ℕ) → z ≤ 2000 → 2 + (60 + z) < 2098
    under' z k = omega arith

    low : (z : ℕ) → z ≤ 2000 → 55 + z ≤ 2098
    low z k = omega arith

    le : q < 2 ^ 53 → q ≤ 2 ^ 53
    le h = omega arith

    size : q * 2 ^ (7 + z) ≤ 2 ^ (60 + z)
    size = le_trans (mul-le-mul_right (2 ^ (7 + z)) (le b))
        (le_of_eq (sym (pow-add 2 53 (7 + z)) ∙ ap (λ (x : ℕ). 2 ^ x) (flat z)))
      where
        flat : (z : ℕ) → 53 + (7 + z) ≡ 60 + z
        flat z = omega arith

-- THE SCALED VALUE: T[i] times 2 ^ (E - 1023), for E = z + 8
pub y-scaled : (i z : ℕ) → i < 32 → z ≤ 2000
    → (q : ℕ) × Is (value_in (row_at i)) false (q * 2 ^ 1022)
    × Scaled (mul binary64 (value_in (row_at i)) (of_bits binary64 (suc (7 + z) * 2 ^ 52))) (q * 2 ^ (7 + z)) (2 ^ z)
unfolding good
y-scaled i z h k =
    let r = row_at i in
    let t = value_in r in
    let g = each_row good none-bad i h in
    let c3 = leb (2 ^ 52) (digits t) && ltb (digits t) (2 ^ 53) in
    let c2 = eqb (num t * 2 ^ 52) (digits t * den t) && c3 in
    let g2 = and_r (positive t) c2 g in
    let g3 = and_r (eqb (num t * 2 ^ 52) (digits t * den t)) c3 g2 in
    let v = positive-value t (and_l (positive t) c2 g)
    (eqb→eq (num t * 2 ^ 52) (digits t * den t) (and_l (eqb (num t * 2 ^ 52) (digits t * den t)) c3 g2)) in (
      digits t,
      v,
      scaled-of t (digits t) z v
          (leb→le (2 ^ 52) (digits t) (and_l (leb (2 ^ 52) (digits t)) (ltb (digits t) (2 ^ 53)) g3))
          (ltb→lt (digits t) (2 ^ 53) (and_r (leb (2 ^ 52) (digits t)) (ltb (digits t) (2 ^ 53)) g3)) k,
    )
