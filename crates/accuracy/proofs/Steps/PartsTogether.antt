-- e ^ x from its parts: a power of two, the core of step 7, and what step 4 lost. Together they are e ^ x up to
-- 0.1976 * 2 ^ -53. Assumes nothing.
use Rattle.accuracy.proofs.Prelude.{◌≡◌, refl, sym, subst, ℕ, suc, ◌+◌, ◌*◌, ◌^◌, ◌≤◌, ◌<◌, arith, lit≤, lit<}
use native.Mathlib.Nat.{le_trans, le_of_eq, mul-le-mul_left, mul-pos}
use Rattle.accuracy.proofs.Euler.AnySign.{Exp, Nearly, exp-mul, exp-weaken, exp-shift}
use Rattle.accuracy.proofs.Rounding.Binary64.{L, e, L-pos}
use Rattle.accuracy.proofs.Steps.SumNear.{last}
use Rattle.accuracy.proofs.Euler.Powers.{exp-small}

-- ---- all together
-- 1 / sharp is 0.1976 * 2 ^ -53
abbrev pub sharp : ℕ
sharp = 81 * 2 ^ 49

-- (1 + 2^-80) (1 + 0.1345 2^-53) (1 + 2^-57) ≤ 1 + 0.1976 2^-53
in_all : suc (2 ^ 80) * suc last * (2 ^ 57 + 1) * sharp ≤ suc (sharp) * (2 ^ 80 * last * 2 ^ 57)
in_all = lit≤ tt

L-57 : L + 2 * (2 ^ 22 * e) ≡ (2 ^ 57 + 1) * (2 ^ 23 * e)
unfolding L e
L-57 = refl

L-57' : L ≡ 2 ^ 57 * (2 ^ 23 * e)
unfolding L e
L-57' = refl

z-half : 2 * (2 ^ 22 * e) ≤ L
unfolding L e
z-half = lit≤ tt

-- both bounds have one form: P (a + 1) / (Q a) times R (b + 1) / (S b) times (L + 2 z) / L
one_side : (tp tm sp sm dp dm xp xm P Q R S : ℕ) → 0 < P → 0 < Q → 0 < R → 0 < S
    → Exp tp tm L (P * suc (2 ^ 80)) (Q * 2 ^ 80) → Exp sp sm L (R * suc last) (S * last) → dp ≤ dm + 2 ^ 22 * e
    → tp + sp + dp + xm ≡ xp + (tm + sm + dm) → Exp xp xm L (P * R * suc (sharp)) (Q * S * sharp)
one_side tp tm sp sm dp dm xp xm P Q R S h_p h_q h_r h_s h k l q =
    let d = exp-small dp dm L (2 ^ 22 * e) L-pos z-half l in
    let m = exp-mul (tp + sp) (tm + sm) dp dm L (P * suc (2 ^ 80) * (R * suc last)) (Q * 2 ^ 80 * (S * last))
    (L + 2 * (2 ^ 22 * e)) L L-pos (exp-mul tp tm sp sm L (P * suc (2 ^ 80)) (Q * 2 ^ 80) (R * suc last)
    (S * last) L-pos h k) d in
    exp-weaken xp xm L (P * suc (2 ^ 80) * (R * suc last) * (L + 2 * (2 ^ 22 * e))) (Q * 2 ^ 80 * (S * last) * L)
    (P * R * suc (sharp)) (Q * S * sharp)
    (mul-pos (mul-pos (mul-pos h_p (lit< tt)) (mul-pos h_r (lit< tt))) (more L (2 * (2 ^ 22 * e)) L-pos))
    (mul-pos (mul-pos (mul-pos h_q (lit< tt)) (mul-pos h_s (lit< tt))) L-pos)
    (subst (λ (x : ℕ). P * suc (2 ^ 80) * (R * suc last) * x * (Q * S * sharp) ≤ P * R * suc
    (sharp) * (Q * 2 ^ 80 * (S * last) * L)) (sym L-57)
    (subst (λ (x : ℕ). P * suc (2 ^ 80) * (R * suc last) * ((2 ^ 57 + 1) * (2 ^ 23 * e)) * (Q * S * sharp)
    ≤ P * R * suc (sharp) * (Q * 2 ^ 80 * (S * last) * x)) (sym L-57')
    (flat P Q R S (suc (2 ^ 80)) (suc last) (2 ^ 57 + 1) (2 ^ 23 * e) (sharp) (suc (sharp)) (2 ^ 80) last (2 ^ 57)
    in_all)))
    (exp-shift (tp + sp + dp) (tm + sm + dm) xp xm L (P * suc (2 ^ 80) * (R * suc last) * (L + 2 * (2 ^ 22 * e)))
    (Q * 2 ^ 80 * (S * last) * L) q m)
  where
    more : (x y : ℕ) → 0 < x → 0 < x + y
    more x y h = omega arith

    flat : (P Q R S a' b' c' u t n a b c : ℕ) → a' * b' * c' * t ≤ n * (a * b * c)
        → P * a' * (R * b') * (c' * u) * (Q * S * t) ≤ P * R * n * (Q * a * (S * b) * (c * u))
    flat P Q R S a' b' c' u t n a b c h = le_trans (le_of_eq (e1 P Q R S a' b' c' u t))
        (le_trans (mul-le-mul_left (P * Q * R * S * u) h) (le_of_eq (e2 P Q R S u n a b c)))
      where
        e1 : (P Q R S a' b' c' u t : ℕ)
            → P * a' * (R * b') * (c' * u) * (Q * S * t) ≡ P * Q * R * S * u * (a' * b' * c' * t)
        e1 P Q R S a' b' c' u t = omega arith

        e2 : (P Q R S u n a b c : ℕ) → P * Q * R * S * u * (n * (a * b * c)) ≡ P * R * n * (Q * a * (S * b) * (c * u))
        e2 P Q R S u n a b c = omega arith

-- THE RESULT: 2 ^ M is P / Q, the core's value is R / S, and x is their exponents' sum up to 2 ^ -58. Then
-- P R / (Q S) is e ^ x up to 1 / sharp
pub together : (tp tm sp sm dp dm xp xm P Q R S : ℕ) → 0 < P → 0 < Q → 0 < R → 0 < S → Nearly tp tm L P Q (2 ^ 80)
    → Nearly sp sm L R S last → dp ≤ dm + 2 ^ 22 * e → dm ≤ dp + 2 ^ 22 * e → tp + sp + dp + xm ≡ xp + (tm + sm + dm)
    → Nearly xp xm L (P * R) (Q * S) (sharp)
together tp tm sp sm dp dm xp xm P Q R S h_p h_q h_r h_s h k l l' q = record {
  above = one_side tp tm sp sm dp dm xp xm P Q R S h_p h_q h_r h_s h.above k.above l q;
  below = one_side tm tp sm sp dm dp xm xp Q P S R h_q h_p h_s h_r h.below k.below l'
      (turn tp tm sp sm dp dm xp xm q);
}
  where
    turn : (tp tm sp sm dp dm xp xm : ℕ) → tp + sp + dp + xm ≡ xp + (tm + sm + dm)
        → tm + sm + dm + xp ≡ xm + (tp + sp + dp)
    turn tp tm sp sm dp dm xp xm q = omega arith
