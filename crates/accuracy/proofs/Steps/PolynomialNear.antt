-- exp's polynomial p(r) = 1 + r + r^2 (1/2 + C3 r + C4 r^2 + C5 r^3 + C6 r^4), with exp's own coefficients and no
-- rounding, is e ^ r up to one part in 2 ^ 57 for |r| ≤ 0.011. Assumes nothing.
use Rattle.accuracy.proofs.Prelude.{◌≡◌, refl, sym, ap, ◌∙◌, subst, ℕ, suc, ◌+◌, ◌*◌, ◌^◌, ◌≤◌, ◌<◌, arith, lit≤}
use Rattle.accuracy.proofs.Prelude.{lit<, pow-add}
use mathlib.Core.List.{List, [], ◌∷◌}
use native.Mathlib.Nat.{le_trans, le_of_eq, pow-zero, pow-succ', mul-one, mul-pos}
use lib.ListN.{length}
use Rattle.accuracy.proofs.Euler.PartialSums.{part, scale, over, scale-pos, scale-times, above-series}
use Rattle.accuracy.proofs.Euler.PartialSums.{below-series}
use Rattle.accuracy.proofs.Euler.Weaker.{Near, above-weaken, below-weaken}
use Rattle.accuracy.proofs.Steps.Polynomials.{ev, addl, smul, mulp, unit, tay, excess, ev-add, ev-smul, ev-lift}
use Rattle.accuracy.proofs.Steps.Polynomials.{ev-mul, ev-unit, part-tay, at-most}

-- exp's coefficients times S = 2 ^ 62, exactly: C3, C4, C5, C6
abbrev pub S : ℕ
S = 2 ^ 62

abbrev pub c3 : ℕ
c3 = 768614336399132672

abbrev pub c4 : ℕ
c4 = 192153584099986016

abbrev pub c5 : ℕ
c5 = 38430866384269616

abbrev pub c6 : ℕ
c6 = 6405142737801203

-- p, and its parts of even and of odd degree, times S
abbrev pub whole : List ℕ
whole = S ∷ S ∷ 2 ^ 61 ∷ c3 ∷ c4 ∷ c5 ∷ c6 ∷ []

abbrev pub even : List ℕ
even = S ∷ 0 ∷ 2 ^ 61 ∷ 0 ∷ c4 ∷ 0 ∷ c6 ∷ []

abbrev pub odds : List ℕ
odds = 0 ∷ S ∷ 0 ∷ c3 ∷ 0 ∷ c5 ∷ []

abbrev pub fine : ℕ
fine = 2 ^ 57

abbrev far : ℕ
far = 2 ^ 200

abbrev O : List ℕ
O = addl (tay 9) (unit 9)

abbrev M1 : List ℕ
M1 = far ∷ 1 ∷ []

over-is : (a c : ℕ) → over 8 a c ≡ ev a c 9 O
unfolding over
over-is a c = ap (λ (z : ℕ). z + a ^ 9) (part-tay a c 9) ∙ ap (λ (z : ℕ). ev a c 9 (tay 9) + z) (sym (ev-unit a c 9))
    ∙ sym (ev-add a c 9 (tay 9) (unit 9))

scale-is : (k c : ℕ) → scale k c ≡ c ^ k * scale k 1
scale-is k c = ap (λ (z : ℕ). scale k z) (sym (mul-one c)) ∙ scale-times k c 1

nine : scale 9 1 ≡ 362880
unfolding scale
nine = refl

eight : scale 8 1 ≡ 40320
unfolding scale
eight = refl

m1-is : (a c : ℕ) → ev a c 1 M1 ≡ c * far + a
unfolding ev
m1-is a c = ap (λ (z : ℕ). far * z + a * 1) (pow-succ' c 0 ∙ ap (λ (z : ℕ). c * z) (pow-zero c)) ∙ flat far c a
  where
    flat : (m c a : ℕ) → m * (c * 1) + a * 1 ≡ c * m + a
    flat m c a = omega arith

-- the four tests, computed
pass1 : excess (smul (S * fine) O) (smul (suc fine * 362880) whole) ≡ 0
unfolding excess smul addl tay unit
pass1 = refl

pass2 : excess (smul (fine * 40320) (mulp M1 whole)) (smul (S * suc fine * far) (tay 8)) ≡ 0
unfolding excess smul addl tay unit mulp
pass2 = refl

pass3 : excess (smul fine (mulp O even)) (addl (smul (S * suc fine * 362880) (1 ∷ [])) (smul fine (mulp O odds))) ≡ 0
unfolding excess smul addl tay unit mulp
pass3 = refl

pass4 : excess (addl (smul (S * fine * 40320) M1) (smul (suc fine * far) (mulp (tay 8) odds)))
    (smul (suc fine * far) (mulp (tay 8) even)) ≡ 0
unfolding excess smul addl tay unit mulp
pass4 = refl

O-length : length O ≤ 10
unfolding addl tay unit smul
O-length = lit≤ tt

whole_length : length whole ≤ 7
whole_length = lit≤ tt

even-length : length even ≤ 7
even-length = lit≤ tt

odds-length : length odds ≤ 7
odds-length = lit≤ tt

t8-length : length (tay 8) ≤ 9
unfolding addl tay unit smul
t8-length = lit≤ tt

prod-length : (length (mulp M1 whole) ≤ 8) × (length (mulp O even) ≤ 16) × (length (mulp O odds) ≤ 16)
    × (length (mulp (tay 8) even) ≤ 15) × (length (mulp (tay 8) odds) ≤ 15)
unfolding addl tay unit smul mulp
prod-length = (lit≤ tt, lit≤ tt, lit≤ tt, lit≤ tt, lit≤ tt)

one-length : length M1 ≤ 2
one-length = lit≤ tt

module _ (a c : ℕ) (hc : 0 < c) (small : 1000 * a ≤ 11 * c) where
  -- both sides of a test, with the constants as variables
  test1 : S * fine * (c ^ 6 * ev a c 9 O) ≤ suc fine * 362880 * (c ^ 9 * ev a c 6 whole)
  test1 =
      le_trans (le_of_eq (ap (λ (z : ℕ). S * fine * z) (sym (ev-lift a c 6 9 O O-length))
      ∙ sym (ev-smul a c 15 (S * fine) O)))
      (le_trans (at-most a c small 15 (smul (S * fine) O) (smul (suc fine * 362880) whole) pass1)
      (le_of_eq (ev-smul a c 15 (suc fine * 362880) whole ∙ ap (λ (z : ℕ). suc fine * 362880 * z)
      (ev-lift a c 9 6 whole whole_length))))

  test2 : fine * 40320 * (c ^ 8 * (ev a c 1 M1 * ev a c 6 whole)) ≤ S * suc fine * far * (c ^ 7 * ev a c 8 (tay 8))
  test2 =
      le_trans (le_of_eq (ap (λ (z : ℕ). fine * 40320 * z)
      (ap (λ (z : ℕ). c ^ 8 * z) (sym (ev-mul a c 1 6 M1 whole one-length whole_length))
      ∙ sym (ev-lift a c 8 7 (mulp M1 whole) prod-length.0))
      ∙ sym (ev-smul a c 15 (fine * 40320) (mulp M1 whole))))
      (le_trans (at-most a c small 15 (smul (fine * 40320) (mulp M1 whole)) (smul (S * suc fine * far) (tay 8)) pass2)
      (le_of_eq (ev-smul a c 15 (S * suc fine * far) (tay 8) ∙ ap (λ (z : ℕ). S * suc fine * far * z)
      (ev-lift a c 7 8 (tay 8) t8-length))))

  test3 : fine * (ev a c 9 O * ev a c 6 even) ≤ S * suc fine * 362880 * (c ^ 15 * ev a c 0 (1 ∷ []))
      + fine * (ev a c 9 O * ev a c 6 odds)
  test3 =
      le_trans (le_of_eq (ap (λ (z : ℕ). fine * z) (sym (ev-mul a c 9 6 O even O-length even-length))
      ∙ sym (ev-smul a c 15 fine (mulp O even))))
      (le_trans (at-most a c small 15 (smul fine (mulp O even))
      (addl (smul (S * suc fine * 362880) (1 ∷ [])) (smul fine (mulp O odds))) pass3)
      (le_of_eq (ev-add a c 15 (smul (S * suc fine * 362880) (1 ∷ [])) (smul fine (mulp O odds))
      ∙ ap (λ (z : ℕ). z + ev a c 15 (smul fine (mulp O odds))) (ev-smul a c 15 (S * suc fine * 362880) (1 ∷ [])
      ∙ ap (λ (z : ℕ). S * suc fine * 362880 * z) (ev-lift a c 15 0 (1 ∷ []) (lit≤ tt)))
      ∙ ap (λ (z : ℕ). S * suc fine * 362880 * (c ^ 15 * ev a c 0 (1 ∷ [])) + z) (ev-smul a c 15 fine (mulp O odds)
      ∙ ap (λ (z : ℕ). fine * z) (ev-mul a c 9 6 O odds O-length odds-length)))))

  test4 : S * fine * 40320 * (c ^ 14 * ev a c 1 M1) + suc fine * far * (c ^ 1 * (ev a c 8 (tay 8) * ev a c 6 odds))
      ≤ suc fine * far * (c ^ 1 * (ev a c 8 (tay 8) * ev a c 6 even))
  test4 =
      le_trans (le_of_eq (sym (ev-add a c 15 (smul (S * fine * 40320) M1) (smul (suc fine * far) (mulp (tay 8) odds))
      ∙ ap (λ (z : ℕ). z + ev a c 15 (smul (suc fine * far) (mulp (tay 8) odds)))
      (ev-smul a c 15 (S * fine * 40320) M1 ∙ ap (λ (z : ℕ). S * fine * 40320 * z)
      (ev-lift a c 14 1 M1 one-length))
      ∙ ap (λ (z : ℕ). S * fine * 40320 * (c ^ 14 * ev a c 1 M1) + z) (lift8 odds odds-length prod-length.4))))
      (le_trans (at-most a c small 15 (addl (smul (S * fine * 40320) M1) (smul (suc fine * far) (mulp (tay 8) odds)))
      (smul (suc fine * far) (mulp (tay 8) even)) pass4)
      (le_of_eq (lift8 even even-length prod-length.3)))
    where
      lift8 : (q : List ℕ) → length q ≤ 7 → length (mulp (tay 8) q) ≤ 15
          → ev a c 15 (smul (suc fine * far) (mulp (tay 8) q))
          ≡ suc fine * far * (c ^ 1 * (ev a c 8 (tay 8) * ev a c 6 q))
      lift8 q h k = ev-smul a c 15 (suc fine * far) (mulp (tay 8) q) ∙ ap (λ (z : ℕ). suc fine * far * z)
          (ev-lift a c 1 14 (mulp (tay 8) q) k ∙ ap (λ (z : ℕ). c ^ 1 * z) (ev-mul a c 8 6 (tay 8) q t8-length h))

  up-range : 2 * a ≤ 9 * c
  up-range = omega arith

  unit-range : a ≤ c
  unit-range = omega arith

  low-pos : 0 < scale 8 c * (c * far + a)
  low-pos = mul-pos (scale-pos 8 c hc) (more (c * far) a (mul-pos hc (lit< tt)))
    where
      more : (x y : ℕ) → 0 < x → 0 < x + y
      more x y h = omega arith

  -- r = a / c
  pub poly-plus : Near a c (ev a c 6 whole) (S * c ^ 6) fine
  poly-plus = record {
    above = above-weaken a c (over 8 a c) (scale 9 c) (ev a c 6 whole * suc fine) (S * c ^ 6 * fine) (scale-pos 9 c hc)
        (subst (λ (z : ℕ). over 8 a c * (S * c ^ 6 * fine) ≤ ev a c 6 whole * suc fine * z)
        (sym (scale-is 9 c ∙ ap (λ (z : ℕ). c ^ 9 * z) nine))
        (subst (λ (z : ℕ). z * (S * c ^ 6 * fine) ≤ ev a c 6 whole * suc fine * (c ^ 9 * 362880)) (sym (over-is a c))
        (turn1 (ev a c 9 O) S (c ^ 6) fine (ev a c 6 whole) (suc fine) (c ^ 9) 362880 test1)))
        (above-series 8 a c up-range);
    below = below-weaken a c (part 8 a c * (c * far)) (scale 8 c * (c * far + a)) (ev a c 6 whole * fine)
        (S * c ^ 6 * suc fine) low-pos
        (subst (λ (z : ℕ). ev a c 6 whole * fine * (z * (c * far + a)) ≤ part 8 a
        c * (c * far) * (S * c ^ 6 * suc fine)) (sym (scale-is 8 c ∙ ap (λ (z : ℕ). c ^ 8 * z) eight))
        (subst (λ (z : ℕ). ev a c 6 whole * fine * (c ^ 8 * 40320 * z) ≤ part 8 a
        c * (c * far) * (S * c ^ 6 * suc fine)) (m1-is a c)
        (subst (λ (z : ℕ). ev a c 6 whole * fine * (c ^ 8 * 40320 * ev a c 1 M1)
        ≤ z * (c * far) * (S * c ^ 6 * suc fine)) (sym (part-tay a c 8))
        (turn2 (ev a c 6 whole) fine (c ^ 8) 40320 (ev a c 1 M1) (ev a c 8 (tay 8)) c far S (c ^ 6) (suc fine) (c ^ 7)
        (pow-succ' c 6) test2))))
        (below-series 8 far a c (lit< tt) hc unit-range);
  }
    where
      turn1 : (o s c6 e w e' c9 f : ℕ) → s * e * (c6 * o) ≤ e' * f * (c9 * w) → o * (s * c6 * e) ≤ w * e' * (c9 * f)
      turn1 o s c6 e w e' c9 f h = omega arith

      turn2 : (w e c8 f m t c m' s c6 e' c7 : ℕ) → c7 ≡ c * c6 → e * f * (c8 * (m * w)) ≤ s * e' * m' * (c7 * t)
          → w * e * (c8 * f * m) ≤ t * (c * m') * (s * c6 * e')
      turn2 w e c8 f m t c m' s c6 e' c7 q h =
          let k : s * e' * m' * (c7 * t) ≡ s * e' * m' * (c * c6 * t) = ap (λ (z : ℕ). s * e' * m' * (z * t)) q in
          flat w e c8 f m t c m' s c6 e' (s * e' * m' * (c7 * t)) k h
        where
          flat : (w e c8 f m t c m' s c6 e' x : ℕ) → x ≡ s * e' * m' * (c * c6 * t) → e * f * (c8 * (m * w)) ≤ x
              → w * e * (c8 * f * m) ≤ t * (c * m') * (s * c6 * e')
          flat w e c8 f m t c m' s c6 e' x k h = omega arith

  -- r = - a / c, where p(r) is W / (S c^6)
  pub poly-minus : (W : ℕ) → W + ev a c 6 odds ≡ ev a c 6 even → Near a c (S * c ^ 6) W fine
  unfolding ev
  poly-minus W e = record {
    above = above-weaken a c (over 8 a c) (scale 9 c) (S * c ^ 6 * suc fine) (W * fine) (scale-pos 9 c hc)
        (subst (λ (z : ℕ). over 8 a c * (W * fine) ≤ S * c ^ 6 * suc fine * z)
        (sym (scale-is 9 c ∙ ap (λ (z : ℕ). c ^ 9 * z) nine))
        (subst (λ (z : ℕ). z * (W * fine) ≤ S * c ^ 6 * suc fine * (c ^ 9 * 362880)) (sym (over-is a c))
        (turn3 (ev a c 9 O) W fine S (c ^ 6) (suc fine) (c ^ 9) 362880 (ev a c 6 even) (ev a c 6 odds) (c ^ 15)
        (pow-add c 6 9) e test3)))
        (above-series 8 a c up-range);
    below = below-weaken a c (part 8 a c * (c * far)) (scale 8 c * (c * far + a)) (S * c ^ 6 * fine) (W * suc fine)
        low-pos
        (subst (λ (z : ℕ). S * c ^ 6 * fine * (z * (c * far + a)) ≤ part 8 a c * (c * far) * (W * suc fine))
        (sym (scale-is 8 c ∙ ap (λ (z : ℕ). c ^ 8 * z) eight))
        (subst (λ (z : ℕ). S * c ^ 6 * fine * (c ^ 8 * 40320 * z) ≤ part 8 a c * (c * far) * (W * suc fine)) (m1-is a c)
        (subst (λ (z : ℕ). S * c ^ 6 * fine * (c ^ 8 * 40320 * ev a c 1 M1) ≤ z * (c * far) * (W * suc fine))
        (sym (part-tay a c 8))
        (turn4 S (c ^ 6) fine (c ^ 8) 40320 (ev a c 1 M1) (ev a c 8 (tay 8)) c far W (suc fine) (c ^ 14) (c ^ 1)
        (ev a c 6 odds) (ev a c 6 even) (pow-add c 6 8) (pow-succ' c 0 ∙ ap (λ (z : ℕ). c * z) (pow-zero c)
        ∙ mul-one c) e test4))))
        (below-series 8 far a c (lit< tt) hc unit-range);
  }
    where
      turn3 : (o w e s c6 e' c9 f p q c15 : ℕ) → c15 ≡ c6 * c9 → w + q ≡ p
          → e * (o * p) ≤ s * e' * f * (c15 * 1) + e * (o * q) → o * (w * e) ≤ s * c6 * e' * (c9 * f)
      turn3 o w e s c6 e' c9 f p q c15 h k l =
          let m : e * (o * p) ≡ e * (o * (w + q)) = ap (λ (z : ℕ). e * (o * z)) (sym k) in
          let n : s * e' * f * (c15 * 1) ≡ s * e' * f * (c6 * c9 * 1) = ap (λ (z : ℕ). s * e' * f * (z * 1)) h in
          flat o w e s c6 e' c9 f q (e * (o * p)) (s * e' * f * (c15 * 1)) m n l
        where
          flat : (o w e s c6 e' c9 f q x y : ℕ) → x ≡ e * (o * (w + q)) → y ≡ s * e' * f * (c6 * c9 * 1)
              → x ≤ y + e * (o * q) → o * (w * e) ≤ s * c6 * e' * (c9 * f)
          flat o w e s c6 e' c9 f q x y m n l = omega arith

      turn4 : (s c6 e c8 f m t c m' w e' c14 c1 q p : ℕ) → c14 ≡ c6 * c8 → c1 ≡ c → w + q ≡ p
          → s * e * f * (c14 * m) + e' * m' * (c1 * (t * q)) ≤ e' * m' * (c1 * (t * p))
          → s * c6 * e * (c8 * f * m) ≤ t * (c * m') * (w * e')
      turn4 s c6 e c8 f m t c m' w e' c14 c1 q p h g k l =
          let x1 : s * e * f * (c14 * m) ≡ s * e * f * (c6 * c8 * m) = ap (λ (z : ℕ). s * e * f * (z * m)) h in
          let x2 : e' * m' * (c1 * (t * p)) ≡ e' * m' * (c * (t * (w + q))) =
          ap (λ (z : ℕ). e' * m' * (z * (t * p))) g ∙ ap (λ (z : ℕ). e' * m' * (c * (t * z))) (sym k) in
          let x3 : e' * m' * (c1 * (t * q)) ≡ e' * m' * (c * (t * q)) = ap (λ (z : ℕ). e' * m' * (z * (t * q))) g in
          flat s c6 e c8 f m t c m' w e' q (s * e * f * (c14 * m)) (e' * m' * (c1 * (t * p)))
          (e' * m' * (c1 * (t * q))) x1 x2 x3 l
        where
          flat : (s c6 e c8 f m t c m' w e' q x y z : ℕ) → x ≡ s * e * f * (c6 * c8 * m)
              → y ≡ e' * m' * (c * (t * (w + q))) → z ≡ e' * m' * (c * (t * q)) → x + z ≤ y
              → s * c6 * e * (c8 * f * m) ≤ t * (c * m') * (w * e')
          flat s c6 e c8 f m t c m' w e' q x y z h k l g = omega arith
