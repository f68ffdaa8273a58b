-- Step 6: value(E * 2 ^ 52) is the power of two 2 ^ (E - 1023), and a product with it is exact where a double holds it.
-- Assumes nothing.
use Rattle.accuracy.proofs.Prelude.{◌≡◌, refl, sym, ap, ◌∙◌, subst, Bool, true, false, cond, ℕ, suc, ◌+◌, ◌*◌}
use Rattle.accuracy.proofs.Prelude.{◌/◌, ◌%◌, ◌^◌, ◌<◌, arith, T, leb, eqb, eqb→eq, lit<, pow_pos, pow-add}
use native.Mathlib.Nat.{mul_assoc, mul-pos, mod-eq_of_lt, mul-div_cancel, mul-mod_left}
use lib.Arith.{lt→nleb}
use lib.Ieee.{Float, binary64, of_bits, of_fields, odd, top, inf}
use lib.Ieee.Exact.{HasValue, odd_sign, round_exact}
use lib.Ieee.{mul, round}
use Rattle.accuracy.proofs.Rounding.AnyFormat.{mul_is, lower}
use lib.Ieee.Bits.{is_false}
use Rattle.accuracy.proofs.Rounding.Binary64.{L, Is}

fields : (x : ℕ) → suc x < 2047 → HasValue (of_fields binary64 false (suc x) 0) false (2 ^ 52 * 2 ^ x) (2 ^ 1074)
unfolding of_fields
fields x h = go (eqb (suc x) 2047) (eqb→eq (suc x) 2047)
  where
    no : (x : ℕ) → suc x < 2047 → suc x ≡ 2047 → ⊥
    no x h q = omega arith

    go : (b : Bool) → (T b → suc x ≡ 2047)
        → HasValue (cond b (inf false) (odd 53 false 4503599627370496 x 1074)) false (2 ^ 52 * 2 ^ x) (2 ^ 1074)
    go true u = absurd (no x h (u tt))
    go false u = odd_sign 53 false 4503599627370496 x 1074

opened : (b : ℕ) → of_bits binary64 b ≡ of_fields binary64 (leb (2 ^ 63) b) (b % 2 ^ 63 / 2 ^ 52) (b % 2 ^ 52)
unfolding of_bits
opened b = refl

pub power-bits : (x : ℕ) → suc x < 2047 → Is (of_bits binary64 (suc x * 2 ^ 52)) false (2 ^ 52 * 2 ^ x)
unfolding L
power-bits x h =
    let b = suc x * 2 ^ 52 in
    let l : b < 2 ^ 63 = below x h in
    let q : of_bits binary64 b ≡ of_fields binary64 false (suc x) 0 =
    opened b ∙ ap (λ (z : Bool). of_fields binary64 z (b % 2 ^ 63 / 2 ^ 52) (b % 2 ^ 52))
    (is_false (leb (2 ^ 63) b) (lt→nleb (2 ^ 63) b l))
    ∙ ap (λ (z : ℕ). of_fields binary64 false (z / 2 ^ 52) (b % 2 ^ 52)) (mod-eq_of_lt l)
    ∙ ap (λ (z : ℕ). of_fields binary64 false z (b % 2 ^ 52))
    (mul-div_cancel (suc x) (lit< {m = 0} {n = 2 ^ 52} tt)) ∙ ap (λ (z : ℕ). of_fields binary64 false (suc x) z)
    (mul-mod_left (suc x) (2 ^ 52)) in
    subst (λ (z : Float). HasValue z false (2 ^ 52 * 2 ^ x) (2 ^ 1074)) (sym q) (fields x h)
  where
    below : (x : ℕ) → suc x < 2047 → suc x * 2 ^ 52 < 2 ^ 63
    below x h = omega arith

-- ---- an exact product with a power of two
-- g = q 2^j units times 2^u units over L is q 2^v units, where j + u = v + 1074 and q has 53 digits
pub mul-exact : (x y : Float) (q j u v : ℕ) → Is x false (q * 2 ^ j) → Is y false (2 ^ u) → j + u ≡ v + 1074
    → q < 2 ^ 53 → q * 2 ^ v < 2 ^ 2098 → Is (mul binary64 x y) false (q * 2 ^ v)
unfolding L
mul-exact x y q j u v hx hy h small top =
    let N = q * 2 ^ j * 2 ^ u in
    let e : N ≡ q * 2 ^ v * L = mul_assoc q (2 ^ j) (2 ^ u)
    ∙ ap (λ (z : ℕ). q * z) (sym (pow-add 2 j u) ∙ ap (λ (z : ℕ). 2 ^ z) h ∙ pow-add 2 v 1074)
    ∙ sym (mul_assoc q (2 ^ v) (2 ^ 1074)) in
    let r = round_exact binary64 false N (L * L) q v (mul-pos (pow_pos 1074) (pow_pos 1074)) small top
    (ap (λ (z : ℕ). z * L) e ∙ mul_assoc (q * 2 ^ v) L L) in
    lower (mul binary64 x y) false (q * 2 ^ v) L L (pow_pos 1074)
    (subst (λ (z : Float). HasValue z false (q * 2 ^ v * L) (L * L))
    (sym (mul_is binary64 x y false false (q * 2 ^ j) (2 ^ u) hx hy))
    (subst (λ (z : ℕ). HasValue (round binary64 false N (L * L)) false z (L * L)) e r))
