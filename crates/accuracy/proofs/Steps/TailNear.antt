-- exp_tail stands for e ^ r - 1 - r: 1 + r + exp_tail(r) is p(r) up to 2 ^ -64, and that p is the one of
-- PolynomialNear, which is e ^ r up to one part in 2 ^ 57. Assumes nothing.
use Rattle.accuracy.proofs.Prelude.{◌≡◌, refl, sym, ap, ◌∙◌, subst, true, false, ℕ, ◌+◌, ◌-◌, ◌*◌, ◌^◌, ◌≤◌}
use Rattle.accuracy.proofs.Prelude.{arith}
use native.Mathlib.Nat.{mul-le-mul_left, mul-one, pow-zero, pow-succ', sub-add_cancel}
use lib.Ieee.{Float}
use Rattle.routines.specs.Exp.{exp_tail}
use Rattle.accuracy.proofs.Rounding.AnyFormat.{Close}
use Rattle.accuracy.proofs.Rounding.Binary64.{L, e, L-pos, Is, halves}
use Rattle.accuracy.proofs.Steps.Polynomials.{ev}
use Rattle.accuracy.proofs.Steps.PolynomialNear.{whole, even, odds, fine, poly-plus, poly-minus, S, c3, c4, c5}
use Rattle.accuracy.proofs.Steps.PolynomialNear.{c6}
use Rattle.accuracy.proofs.Euler.AnySign.{Nearly, nearly-plus, nearly-minus}
use Rattle.accuracy.proofs.Steps.TailRounded.{Q8, N6, N8, N6-is, N8-is, exp_tail-plus, exp_tail-minus}
use Rattle.accuracy.proofs.Steps.TailOperations.{T}

power-1 : (c : ℕ) → c ^ 1 ≡ c
power-1 c = pow-succ' c 0 ∙ ap (λ (z : ℕ). c * z) (pow-zero c) ∙ mul-one c

-- c^2 up to c^6
pub record Powers (c : ℕ) : Type 0 where
  pub p2 : c ^ 2 ≡ c * c
  pub p3 : c ^ 3 ≡ c * (c * c)
  pub p4 : c ^ 4 ≡ c * (c * (c * c))
  pub p5 : c ^ 5 ≡ c * (c * (c * (c * c)))
  pub p6 : c ^ 6 ≡ c * (c * (c * (c * (c * c))))

pub powers : (c : ℕ) → Powers c
powers c =
    let q2 : c ^ 2 ≡ c * c = pow-succ' c 1 ∙ ap (λ (z : ℕ). c * z) (power-1 c) in
    let q3 : c ^ 3 ≡ c * (c * c) = pow-succ' c 2 ∙ ap (λ (z : ℕ). c * z) q2 in
    let q4 : c ^ 4 ≡ c * (c * (c * c)) = pow-succ' c 3 ∙ ap (λ (z : ℕ). c * z) q3 in
    let q5 : c ^ 5 ≡ c * (c * (c * (c * c))) = pow-succ' c 4 ∙ ap (λ (z : ℕ). c * z) q4 in
    record { p2 = q2; p3 = q3; p4 = q4; p5 = q5; p6 = pow-succ' c 5 ∙ ap (λ (z : ℕ). c * z) q5 }

ev-whole : (R c : ℕ) → ev R c 6 whole
    ≡ S * c ^ 6 + R * (S * c ^ 5
    + R * (2 ^ 61 * c ^ 4 + R * (c3 * c ^ 3 + R * (c4 * c ^ 2 + R * (c5 * c ^ 1 + R * c6)))))
unfolding ev
ev-whole R c = refl

ev-even : (R c : ℕ) → ev R c 6 even
    ≡ S * c ^ 6 + R * (0 * c ^ 5
    + R * (2 ^ 61 * c ^ 4 + R * (0 * c ^ 3 + R * (c4 * c ^ 2 + R * (0 * c ^ 1 + R * c6)))))
unfolding ev
ev-even R c = refl

ev-odds : (R c : ℕ) → ev R c 6 odds
    ≡ 0 * c ^ 6 + R * (S * c ^ 5 + R * (0 * c ^ 4 + R * (c3 * c ^ 3 + R * (0 * c ^ 2 + R * (c5 * c ^ 1 + R * 0)))))
unfolding ev
ev-odds R c = refl

scale-6 : S * L ^ 6 ≡ T * L
scale-6 = ap (λ (z : ℕ). S * z) (powers L).p6 ∙ flat S L
  where
    flat : (s c : ℕ) → s * (c * (c * (c * (c * (c * c))))) ≡ s * c * (c * c) * (c * c) * c
    flat s c = omega arith

pub K-plus : (R : ℕ) → ev R L 6 whole ≡ T * L + T * R + R * R * Q8 R
K-plus R = ev-whole R L ∙ rw ((powers L).p6, (powers L).p5, (powers L).p4, (powers L).p3, (powers L).p2, power-1 L)
    (flat R L (2 ^ 79 * e) (ap (λ (z : ℕ). 2 ^ 61 * (L * (L * (L * (R * (R * z)))))) halves))
  where
    flat : (R c H : ℕ) → 2 ^ 61 * (c * (c * (c * (R * (R * (2 * H)))))) ≡ 2 ^ 61 * (c * (c * (c * (R * (R * c)))))
        → S * (c * (c * (c * (c * (c * c))))) + R
        * (S * (c * (c * (c * (c * c)))) + R
        * (2 ^ 61 * (c * (c * (c * c))) + R * (c3 * (c * (c * c)) + R * (c4 * (c * c) + R * (c5 * c + R * c6)))))
        ≡ S * c * (c * c) * (c * c) * c + S * c * (c * c) * (c * c) * R + R * R
        * (S * c * (c * c) * H + c3 * R * (c * (c * c)) + R * R * (c4 * (c * c) + c5 * (R * c) + c6 * (R * R)))
    flat R c H h = omega arith

-- ---- p(r) = K / (T L), for either sign
pub record Poly (h : Float) (rp rm : ℕ) : Type 0 where
  pub K : ℕ
  pub H : ℕ
  pub is : Is h false H
  pub small : 4000 * H ≤ L
  pub near : Close (T * (L + rp + H)) (K + T * rm) (T * (2 ^ 16 * e))
  pub exp : Nearly rp rm L K (T * L) fine

pub poly-plus-all : (r : Float) (R : ℕ) → Is r false R → 1000 * R ≤ 11 * L → Poly (exp_tail r) R 0
poly-plus-all r R hr small =
    let h = exp_tail-plus r R hr small in
    record {
      K = ev R L 6 whole;
      H = h.H;
      is = h.is;
      small = h.small;
      near = subst (λ (z : ℕ). Close (T * (L + R + h.H)) (z + T * 0) (T * (2 ^ 16 * e))) (sym (K-plus R)) (
        a T L R h.H (R * R * Q8 R) (2 ^ 16 * e) h.near.0,
        b T L R h.H (R * R * Q8 R) (2 ^ 16 * e) h.near.1,
      );
      exp = subst (λ (z : ℕ). Nearly R 0 L (ev R L 6 whole) z fine) scale-6
          (nearly-plus R L (ev R L 6 whole) (S * L ^ 6) fine L-pos (poly-plus R L L-pos small));
    }
  where
    a : (T L R H Q z : ℕ) → T * H ≤ Q + T * z → T * (L + R + H) ≤ T * L + T * R + Q + T * 0 + T * z
    a T L R H Q z h = omega arith

    b : (T L R H Q z : ℕ) → Q ≤ T * H + T * z → T * L + T * R + Q + T * 0 ≤ T * (L + R + H) + T * z
    b T L R H Q z h = omega arith

flat-left : (R c : ℕ)
    → 0 * (c * (c * (c * (c * (c * c)))))
    + R * (S * (c * (c * (c * (c * c))))
    + R * (0 * (c * (c * (c * c))) + R * (c3 * (c * (c * c)) + R * (0 * (c * c) + R * (c5 * c + R * 0)))))
    ≡ S * (R * (c * (c * (c * (c * c))))) + c3 * (R * (R * (R * (c * (c * c)))))
    + c5 * (R * (R * (R * (R * (R * c)))))
flat-left R c = omega arith

flat-right : (R c : ℕ)
    → S * (c * (c * (c * (c * (c * c)))))
    + R * (0 * (c * (c * (c * (c * c))))
    + R * (2 ^ 61 * (c * (c * (c * c))) + R * (0 * (c * (c * c)) + R * (c4 * (c * c) + R * (0 * c + R * c6)))))
    ≡ S * (c * (c * (c * (c * (c * c))))) + 2 ^ 61 * (R * (R * (c * (c * (c * c)))))
    + c4 * (R * (R * (R * (R * (c * c))))) + c6 * (R * (R * (R * (R * (R * R)))))
flat-right R c = omega arith

flat-q1 : (R c K n8 : ℕ) → K + S * c * (c * c) * (c * c) * R ≡ S * c * (c * c) * (c * c) * c + R * R * n8
    → K + S * (R * (c * (c * (c * (c * c))))) ≡ S * (c * (c * (c * (c * (c * c))))) + R * (R * n8)
flat-q1 R c K n8 q = omega arith

flat-m1 : (R c H n6 n8 : ℕ)
    → 2 ^ 61 * (c * (c * (c * (R * (R * (2 * H)))))) ≡ 2 ^ 61 * (c * (c * (c * (R * (R * c)))))
    → R * R * (n8 + c3 * R * (c * (c * c))) ≡ R * R * (S * c * (c * c) * H + R * R * n6)
    → R * (R * n8) + c3 * (R * (R * (R * (c * (c * c))))) ≡ 2 ^ 61 * (R * (R * (c * (c * (c * c)))))
    + R * (R * (R * (R * n6)))
flat-m1 R c H n6 n8 h m = omega arith

flat-n1 : (R c n6 : ℕ) → R * R * (R * R) * (n6 + c5 * (R * c)) ≡ R * R * (R * R) * (c4 * (c * c) + c6 * (R * R))
    → R * (R * (R * (R * n6))) + c5 * (R * (R * (R * (R * (R * c))))) ≡ c4 * (R * (R * (R * (R * (c * c)))))
    + c6 * (R * (R * (R * (R * (R * R)))))
flat-n1 R c n6 n = omega arith

flat-last : (K a1 a3 a5 b0 b2 b4 b6 n8 n6 : ℕ) → K + a1 ≡ b0 + n8 → n8 + a3 ≡ b2 + n6 → n6 + a5 ≡ b4 + b6
    → K + (a1 + a3 + a5) ≡ b0 + b2 + b4 + b6
flat-last K a1 a3 a5 b0 b2 b4 b6 n8 n6 h k l = omega arith

minus-flat : (R c H K n6 n8 : ℕ)
    → 2 ^ 61 * (c * (c * (c * (R * (R * (2 * H)))))) ≡ 2 ^ 61 * (c * (c * (c * (R * (R * c)))))
    → K + S * c * (c * c) * (c * c) * R ≡ S * c * (c * c) * (c * c) * c + R * R * n8
    → R * R * (n8 + c3 * R * (c * (c * c))) ≡ R * R * (S * c * (c * c) * H + R * R * n6)
    → R * R * (R * R) * (n6 + c5 * (R * c)) ≡ R * R * (R * R) * (c4 * (c * c) + c6 * (R * R))
    → K + (0 * (c * (c * (c * (c * (c * c)))))
    + R * (S * (c * (c * (c * (c * c))))
    + R * (0 * (c * (c * (c * c))) + R * (c3 * (c * (c * c)) + R * (0 * (c * c) + R * (c5 * c + R * 0))))))
    ≡ S * (c * (c * (c * (c * (c * c)))))
    + R * (0 * (c * (c * (c * (c * c))))
    + R * (2 ^ 61 * (c * (c * (c * c))) + R * (0 * (c * (c * c)) + R * (c4 * (c * c) + R * (0 * c + R * c6)))))
minus-flat R c H K n6 n8 h q m n =
    ap (λ (z : ℕ). K + z) (flat-left R c)
    ∙ flat-last K (S * (R * (c * (c * (c * (c * c)))))) (c3 * (R * (R * (R * (c * (c * c))))))
    (c5 * (R * (R * (R * (R * (R * c)))))) (S * (c * (c * (c * (c * (c * c))))))
    (2 ^ 61 * (R * (R * (c * (c * (c * c)))))) (c4 * (R * (R * (R * (R * (c * c))))))
    (c6 * (R * (R * (R * (R * (R * R)))))) (R * (R * n8)) (R * (R * (R * (R * n6)))) (flat-q1 R c K n8 q)
    (flat-m1 R c H n6 n8 h m) (flat-n1 R c n6 n)
    ∙ sym (flat-right R c)

K-minus : (R : ℕ) → 1000 * R ≤ 11 * L
    → (K : ℕ) × (K + T * R ≡ T * L + R * R * N8 R) × (K + ev R L 6 odds ≡ ev R L 6 even)
K-minus R small =
    let K = T * L + R * R * N8 R - T * R in
    let q : K + T * R ≡ T * L + R * R * N8 R =
    sub-add_cancel (le T L R (R * R * N8 R) (mul-le-mul_left T (less L R small))) in
    (K, q, go K q)
  where
    less : (L R : ℕ) → 1000 * R ≤ 11 * L → R ≤ L
    less L R h = omega arith

    le : (T L R z : ℕ) → T * R ≤ T * L → T * R ≤ T * L + z
    le T L R z h = omega arith

    go : (K : ℕ) → K + T * R ≡ T * L + R * R * N8 R → K + ev R L 6 odds ≡ ev R L 6 even
    go K q = ap (λ (z : ℕ). K + z) (ev-odds R L)
        ∙ rw ((powers L).p6, (powers L).p5, (powers L).p4, (powers L).p3, (powers L).p2, power-1 L)
        (minus-flat R L (2 ^ 79 * e) K (N6 R) (N8 R) (ap (λ (z : ℕ). 2 ^ 61 * (L * (L * (L * (R * (R * z)))))) halves)
        q (ap (λ (z : ℕ). R * R * z) (N8-is R small)) (ap (λ (z : ℕ). R * R * (R * R) * z) (N6-is R small)))
        ∙ sym even'
      where
        even' : ev R L 6 even ≡ S * (L * (L * (L * (L * (L * L)))))
            + R * (0 * (L * (L * (L * (L * L))))
            + R * (2 ^ 61 * (L * (L * (L * L)))
            + R * (0 * (L * (L * L)) + R * (c4 * (L * L) + R * (0 * L + R * c6)))))
        even' = ev-even R L ∙ rw ((powers L).p6, (powers L).p5, (powers L).p4, (powers L).p3, (powers L).p2, power-1 L)

pub poly-minus-all : (r : Float) (R : ℕ) → Is r true R → 1000 * R ≤ 11 * L → Poly (exp_tail r) 0 R
poly-minus-all r R hr small =
    let h = exp_tail-minus r R hr small in
    let k = K-minus R small in
    record {
      K = k.0;
      H = h.H;
      is = h.is;
      small = h.small;
      near = subst (λ (z : ℕ). Close (T * (L + 0 + h.H)) z (T * (2 ^ 16 * e))) (sym k.1) (
        a T L h.H (R * R * N8 R) (2 ^ 16 * e) h.near.0,
        b T L h.H (R * R * N8 R) (2 ^ 16 * e) h.near.1,
      );
      exp = subst (λ (z : ℕ). Nearly 0 R L k.0 z fine) scale-6
          (nearly-minus R L k.0 (S * L ^ 6) fine L-pos (poly-minus R L L-pos small k.0 k.2));
    }
  where
    a : (T L H Q z : ℕ) → T * H ≤ Q + T * z → T * (L + 0 + H) ≤ T * L + Q + T * z
    a T L H Q z h = omega arith

    b : (T L H Q z : ℕ) → Q ≤ T * H + T * z → T * L + Q ≤ T * (L + 0 + H) + T * z
    b T L H Q z h = omega arith
