-- expTail's ten roundings in whole numbers: where each is close to the exact operation, the result is close to the
-- exact polynomial. Nothing here is about floats. Assumes nothing.
use Rattle.accuracy.proofs.Prelude.{◌≡◌, sym, ap, ◌∙◌, subst, ℕ, ◌+◌, ◌*◌, ◌≤◌, ◌<◌, arith}
use native.Mathlib.Nat.{mul-le-mul_right, mul-le-mul_left, le_of_mul-le-mul_left}
use Rattle.accuracy.proofs.Rounding.AnyFormat.{Close}

pub close-mul : (A A' α B B' β : ℕ) → Close A A' α → Close B B' β → Close (A * B) (A' * B') (α * B + A' * β)
close-mul A A' α B B' β h k =
    let a1 : A * B ≤ (A' + α) * B = mul-le-mul_right B h.0 in
    let a2 : A' * B ≤ A' * (B' + β) = mul-le-mul_left A' k.0 in
    let b1 : A' * B' ≤ A' * (B + β) = mul-le-mul_left A' k.1 in
    let b2 : A' * B ≤ (A + α) * B = mul-le-mul_right B h.1 in
    (one A A' α B B' β a1 a2, two A A' α B B' β b1 b2)
  where
    one : (A A' α B B' β : ℕ) → A * B ≤ (A' + α) * B → A' * B ≤ A' * (B' + β) → A * B ≤ A' * B' + (α * B + A' * β)
    one A A' α B B' β h k = omega arith

    two : (A A' α B B' β : ℕ) → A' * B' ≤ A' * (B + β) → A' * B ≤ (A + α) * B → A' * B' ≤ A * B + (α * B + A' * β)
    two A A' α B B' β h k = omega arith

pub close-scale : (k x y e : ℕ) → Close x y e → Close (k * x) (k * y) (k * e)
close-scale k x y e h = (one k x y e (mul-le-mul_left k h.0), one k y x e (mul-le-mul_left k h.1))
  where
    one : (k x y e : ℕ) → k * x ≤ k * (y + e) → k * x ≤ k * y + k * e
    one k x y e h = omega arith

pub close-weak : (x y e d : ℕ) → e ≤ d → Close x y e → Close x y d
close-weak x y e d h k = (omega (arith, k.0), omega (arith, k.1))

-- g is k l r / L up to w, where S l = L: S g is k r up to S w
pub by-constant : (S l L g k r w : ℕ) → 0 < L → S * l ≡ L → Close (g * L) (r * (k * l)) (L * w)
    → Close (S * g) (k * r) (S * w)
by-constant S l L g k r w h_l e h =
    let c : Close (S * (g * L)) (S * (r * (k * l))) (S * (L * w)) = close-scale S (g * L) (r * (k * l)) (L * w) h in
    let q : S * (r * (k * l)) ≡ L * (k * r) = turn S r k l ∙ ap (λ (z : ℕ). z * (k * r)) e in (
      le_of_mul-le-mul_left (one S g L w k r (S * (r * (k * l))) q c.0) h_l,
      le_of_mul-le-mul_left (two S g L w k r (S * (r * (k * l))) q c.1) h_l,
    )
  where
    turn : (S r k l : ℕ) → S * (r * (k * l)) ≡ S * l * (k * r)
    turn S r k l = omega arith

    one : (S g L w k r x : ℕ) → x ≡ L * (k * r) → S * (g * L) ≤ x + S * (L * w) → L * (S * g) ≤ L * (k * r + S * w)
    one S g L w k r x e h = omega arith

    two : (S g L w k r x : ℕ) → x ≡ L * (k * r) → x ≤ S * (g * L) + S * (L * w) → L * (k * r) ≤ L * (S * g + S * w)
    two S g L w k r x e h = omega arith

-- ---- the inner part: s6 = (C4 + r C5) + z C6
module _ (S l L R Z g3 g4 g5 g6 c4 c5 c6 e w : ℕ) (h_s : S * l ≡ L) (h6 : c6 ≤ S)
    (z : Close (Z * L) (R * R) (L * w)) (s3 : Close (S * g3) (c5 * R) (S * w)) (s5 : Close (S * g5) (c6 * Z) (S * w))
    (s6 : Close g6 (g4 + g5) e) where
  -- S L g5 is c6 R R
  third : Close (S * L * g5) (c6 * (R * R)) (S * L * (2 * w))
  third =
      let a : Close (L * (S * g5)) (L * (c6 * Z)) (L * (S * w)) = close-scale L (S * g5) (c6 * Z) (S * w) s5 in
      let b : Close (c6 * (Z * L)) (c6 * (R * R)) (c6 * (L * w)) = close-scale c6 (Z * L) (R * R) (L * w) z in
      let m : c6 * (L * w) ≤ S * (L * w) = mul-le-mul_right (L * w) h6 in
      (one S L g5 c6 Z (R * R) w a.0 b.0 m, two S L g5 c6 Z (R * R) w a.1 b.1 m)
    where
      one : (S L g5 c6 Z X w : ℕ) → L * (S * g5) ≤ L * (c6 * Z) + L * (S * w) → c6 * (Z * L) ≤ c6 * X + c6 * (L * w)
          → c6 * (L * w) ≤ S * (L * w) → S * L * g5 ≤ c6 * X + S * L * (2 * w)
      one S L g5 c6 Z X w h k l = omega arith

      two : (S L g5 c6 Z X w : ℕ) → L * (c6 * Z) ≤ L * (S * g5) + L * (S * w) → c6 * X ≤ c6 * (Z * L) + c6 * (L * w)
          → c6 * (L * w) ≤ S * (L * w) → c6 * X ≤ S * L * g5 + S * L * (2 * w)
      two S L g5 c6 Z X w h k l = omega arith

  square4 : S * L * (c4 * l) ≡ c4 * (L * L)
  square4 = turn S L c4 l ∙ ap (λ (x : ℕ). c4 * (L * x)) h_s
    where
      turn : (S L c l : ℕ) → S * L * (c * l) ≡ c * (L * (S * l))
      turn S L c l = omega arith

  s3_l : Close (L * (S * g3)) (L * (c5 * R)) (L * (S * w))
  s3_l = close-scale L (S * g3) (c5 * R) (S * w) s3

  s6_l : Close (S * L * g6) (S * L * (g4 + g5)) (S * L * e)
  s6_l = close-scale (S * L) g6 (g4 + g5) e s6

  pub inner-plus : (Q : ℕ) → Q ≡ c4 * (L * L) + c5 * (R * L) + c6 * (R * R) → Close g4 (c4 * l + g3) e
      → Close (S * L * g6) Q (S * L * (2 * e + 3 * w))
  inner-plus Q q s4 =
      let d : Close (S * L * g4) (S * L * (c4 * l + g3)) (S * L * e) = close-scale (S * L) g4 (c4 * l + g3) e s4 in
      subst (λ (x : ℕ). Close (S * L * g6) x (S * L * (2 * e + 3 * w))) (sym q) (
        one S L g3 g4 g5 g6 c4 c5 l R (L * L) (c6 * (R * R)) e w square4 s6_l.0 d.0 third.0 s3_l.0,
        two S L g3 g4 g5 g6 c4 c5 l R (L * L) (c6 * (R * R)) e w square4 s6_l.1 d.1 third.1 s3_l.1,
      )
    where
      one : (S L g3 g4 g5 g6 c4 c5 l R LL t e w : ℕ) → S * L * (c4 * l) ≡ c4 * LL
          → S * L * g6 ≤ S * L * (g4 + g5) + S * L * e → S * L * g4 ≤ S * L * (c4 * l + g3) + S * L * e
          → S * L * g5 ≤ t + S * L * (2 * w) → L * (S * g3) ≤ L * (c5 * R) + L * (S * w)
          → S * L * g6 ≤ c4 * LL + c5 * (R * L) + t + S * L * (2 * e + 3 * w)
      one S L g3 g4 g5 g6 c4 c5 l R LL t e w a b c d f = omega arith

      two : (S L g3 g4 g5 g6 c4 c5 l R LL t e w : ℕ) → S * L * (c4 * l) ≡ c4 * LL
          → S * L * (g4 + g5) ≤ S * L * g6 + S * L * e → S * L * (c4 * l + g3) ≤ S * L * g4 + S * L * e
          → t ≤ S * L * g5 + S * L * (2 * w) → L * (c5 * R) ≤ L * (S * g3) + L * (S * w)
          → c4 * LL + c5 * (R * L) + t ≤ S * L * g6 + S * L * (2 * e + 3 * w)
      two S L g3 g4 g5 g6 c4 c5 l R LL t e w a b c d f = omega arith

  pub inner-minus : (Q : ℕ) → Q + c5 * (R * L) ≡ c4 * (L * L) + c6 * (R * R) → Close (g4 + g3) (c4 * l) e
      → Close (S * L * g6) Q (S * L * (2 * e + 3 * w))
  inner-minus Q q s4 =
      let d : Close (S * L * (g4 + g3)) (S * L * (c4 * l)) (S * L * e) =
      close-scale (S * L) (g4 + g3) (c4 * l) e s4 in (
        one S L g3 g4 g5 g6 c4 c5 l R (L * L) (c6 * (R * R)) e w Q square4 q s6_l.0 d.0 third.0 s3_l.1,
        two S L g3 g4 g5 g6 c4 c5 l R (L * L) (c6 * (R * R)) e w Q square4 q s6_l.1 d.1 third.1 s3_l.0,
      )
    where
      one : (S L g3 g4 g5 g6 c4 c5 l R LL t e w Q : ℕ) → S * L * (c4 * l) ≡ c4 * LL → Q + c5 * (R * L) ≡ c4 * LL + t
          → S * L * g6 ≤ S * L * (g4 + g5) + S * L * e → S * L * (g4 + g3) ≤ S * L * (c4 * l) + S * L * e
          → S * L * g5 ≤ t + S * L * (2 * w) → L * (c5 * R) ≤ L * (S * g3) + L * (S * w)
          → S * L * g6 ≤ Q + S * L * (2 * e + 3 * w)
      one S L g3 g4 g5 g6 c4 c5 l R LL t e w Q a q b c d f = omega arith

      two : (S L g3 g4 g5 g6 c4 c5 l R LL t e w Q : ℕ) → S * L * (c4 * l) ≡ c4 * LL → Q + c5 * (R * L) ≡ c4 * LL + t
          → S * L * (g4 + g5) ≤ S * L * g6 + S * L * e → S * L * (c4 * l) ≤ S * L * (g4 + g3) + S * L * e
          → t ≤ S * L * g5 + S * L * (2 * w) → L * (S * g3) ≤ L * (c5 * R) + L * (S * w)
          → Q ≤ S * L * g6 + S * L * (2 * e + 3 * w)
      two S L g3 g4 g5 g6 c4 c5 l R LL t e w Q a q b c d f = omega arith

-- ---- a product with z
-- Z L is R R up to L w, g L is Z s up to L v, and T s is Q up to T d. Then T L L g is R R Q up to T L L (v + w + b),
-- where s ≤ L and R R d ≤ L L b
pub times-z : (T L R Z s g Q w v d b : ℕ) → Close (Z * L) (R * R) (L * w) → Close (g * L) (Z * s) (L * v)
    → Close (T * s) Q (T * d) → s ≤ L → R * R * d ≤ L * L * b
    → Close (T * (L * L) * g) (R * R * Q) (T * (L * L) * (v + w + b))
times-z T L R Z s g Q w v d b z p q hs hb =
    let m : Close (Z * L * (T * s)) (R * R * Q) (L * w * (T * s) + R * R * (T * d)) =
    close-mul (Z * L) (R * R) (L * w) (T * s) Q (T * d) z q in
    let n : Close (T * L * (g * L)) (T * L * (Z * s)) (T * L * (L * v)) =
    close-scale (T * L) (g * L) (Z * s) (L * v) p in
    let k : L * w * T * s ≤ L * w * T * L = mul-le-mul_left (L * w * T) hs in
    let l : T * (R * R * d) ≤ T * (L * L * b) = mul-le-mul_left T hb in
    (one T L (R * R) Z s g Q w v d b m.0 n.0 k l, two T L (R * R) Z s g Q w v d b m.1 n.1 k l)
  where
    one : (T L X Z s g Q w v d b : ℕ) → Z * L * (T * s) ≤ X * Q + (L * w * (T * s) + X * (T * d))
        → T * L * (g * L) ≤ T * L * (Z * s) + T * L * (L * v) → L * w * T * s ≤ L * w * T * L
        → T * (X * d) ≤ T * (L * L * b) → T * (L * L) * g ≤ X * Q + T * (L * L) * (v + w + b)
    one T L X Z s g Q w v d b h k m n = omega arith

    two : (T L X Z s g Q w v d b : ℕ) → X * Q ≤ Z * L * (T * s) + (L * w * (T * s) + X * (T * d))
        → T * L * (Z * s) ≤ T * L * (g * L) + T * L * (L * v) → L * w * T * s ≤ L * w * T * L
        → T * (X * d) ≤ T * (L * L * b) → X * Q ≤ T * (L * L) * g + T * (L * L) * (v + w + b)
    two T L X Z s g Q w v d b h k m n = omega arith

-- ---- the outer part: s8 = (1 / 2 + r C3) + s7, over T L L with T = S L. X is R R Q6
module _ (S L R g1 g2 g7 g8 c3 half e w d X : ℕ) (s1 : Close (S * g1) (c3 * R) (S * w))
    (s7 : Close (S * L * (L * L) * g7) X (S * L * (L * L) * d)) (s8 : Close g8 (g2 + g7) e) where
  a8 : Close (S * L * (L * L) * g8) (S * L * (L * L) * (g2 + g7)) (S * L * (L * L) * e)
  a8 = close-scale (S * L * (L * L)) g8 (g2 + g7) e s8

  a1 : Close (L * (L * L) * (S * g1)) (L * (L * L) * (c3 * R)) (L * (L * L) * (S * w))
  a1 = close-scale (L * (L * L)) (S * g1) (c3 * R) (S * w) s1

  pub outer-plus : (Q : ℕ) → Q ≡ S * L * (L * L) * half + c3 * R * (L * (L * L)) + X → Close g2 (half + g1) e
      → Close (S * L * (L * L) * g8) Q (S * L * (L * L) * (2 * e + w + d))
  outer-plus Q q s2 =
      let a2 : Close (S * L * (L * L) * g2) (S * L * (L * L) * (half + g1)) (S * L * (L * L) * e) =
      close-scale (S * L * (L * L)) g2 (half + g1) e s2 in
      subst (λ (x : ℕ). Close (S * L * (L * L) * g8) x (S * L * (L * L) * (2 * e + w + d))) (sym q) (
        one S (L * (L * L)) (S * L * (L * L)) R g1 g2 g7 g8 c3 half e w d X (same S L) a8.0 a2.0 a1.0 s7.0,
        two S (L * (L * L)) (S * L * (L * L)) R g1 g2 g7 g8 c3 half e w d X (same S L) a8.1 a2.1 a1.1
            s7.1,
      )
    where
      same : (S L : ℕ) → S * L * (L * L) ≡ S * (L * (L * L))
      same S L = omega arith

      one : (S C T R g1 g2 g7 g8 c3 half e w d X : ℕ) → T ≡ S * C → T * g8 ≤ T * (g2 + g7) + T * e
          → T * g2 ≤ T * (half + g1) + T * e → C * (S * g1) ≤ C * (c3 * R) + C * (S * w) → T * g7 ≤ X + T * d
          → T * g8 ≤ T * half + c3 * R * C + X + T * (2 * e + w + d)
      one S C T R g1 g2 g7 g8 c3 half e w d X t h k m n =
          let a : T * g1 ≡ S * C * g1 = ap (λ (z : ℕ). z * g1) t in
          let b : T * w ≡ S * C * w = ap (λ (z : ℕ). z * w) t in
          omega arith

      two : (S C T R g1 g2 g7 g8 c3 half e w d X : ℕ) → T ≡ S * C → T * (g2 + g7) ≤ T * g8 + T * e
          → T * (half + g1) ≤ T * g2 + T * e → C * (c3 * R) ≤ C * (S * g1) + C * (S * w) → X ≤ T * g7 + T * d
          → T * half + c3 * R * C + X ≤ T * g8 + T * (2 * e + w + d)
      two S C T R g1 g2 g7 g8 c3 half e w d X t h k m n =
          let a : T * g1 ≡ S * C * g1 = ap (λ (z : ℕ). z * g1) t in
          let b : T * w ≡ S * C * w = ap (λ (z : ℕ). z * w) t in
          omega arith

  pub outer-minus : (Q : ℕ) → Q + c3 * R * (L * (L * L)) ≡ S * L * (L * L) * half + X → Close (g2 + g1) half e
      → Close (S * L * (L * L) * g8) Q (S * L * (L * L) * (2 * e + w + d))
  outer-minus Q q s2 =
      let a2 : Close (S * L * (L * L) * (g2 + g1)) (S * L * (L * L) * half) (S * L * (L * L) * e) =
      close-scale (S * L * (L * L)) (g2 + g1) half e s2 in (
        one S (L * (L * L)) (S * L * (L * L)) R g1 g2 g7 g8 c3 half e w d X Q (same S L) q a8.0 a2.0 a1.1
            s7.0,
        two S (L * (L * L)) (S * L * (L * L)) R g1 g2 g7 g8 c3 half e w d X Q (same S L) q a8.1 a2.1
            a1.0 s7.1,
      )
    where
      same : (S L : ℕ) → S * L * (L * L) ≡ S * (L * (L * L))
      same S L = omega arith

      one : (S C T R g1 g2 g7 g8 c3 half e w d X Q : ℕ) → T ≡ S * C → Q + c3 * R * C ≡ T * half + X
          → T * g8 ≤ T * (g2 + g7) + T * e → T * (g2 + g1) ≤ T * half + T * e
          → C * (c3 * R) ≤ C * (S * g1) + C * (S * w) → T * g7 ≤ X + T * d → T * g8 ≤ Q + T * (2 * e + w + d)
      one S C T R g1 g2 g7 g8 c3 half e w d X Q t q h k m n =
          let a : T * g1 ≡ S * C * g1 = ap (λ (z : ℕ). z * g1) t in
          let b : T * w ≡ S * C * w = ap (λ (z : ℕ). z * w) t in
          omega arith

      two : (S C T R g1 g2 g7 g8 c3 half e w d X Q : ℕ) → T ≡ S * C → Q + c3 * R * C ≡ T * half + X
          → T * (g2 + g7) ≤ T * g8 + T * e → T * half ≤ T * (g2 + g1) + T * e
          → C * (S * g1) ≤ C * (c3 * R) + C * (S * w) → X ≤ T * g7 + T * d → Q ≤ T * g8 + T * (2 * e + w + d)
      two S C T R g1 g2 g7 g8 c3 half e w d X Q t q h k m n =
          let a : T * g1 ≡ S * C * g1 = ap (λ (z : ℕ). z * g1) t in
          let b : T * w ≡ S * C * w = ap (λ (z : ℕ). z * w) t in
          omega arith
