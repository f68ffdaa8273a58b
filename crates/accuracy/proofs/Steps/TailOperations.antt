-- expTail's ten operations one by one, on every |r| ≤ 0.011: the value of each in units, how far its rounding is from
-- the exact one, and a bound of its size. Then all ten together (`finish`). Assumes nothing.
use Rattle.accuracy.proofs.Prelude.{◌≡◌, refl, sym, ◌∙◌, subst, Bool, false, ℕ, ◌+◌, ◌*◌, ◌^◌, ◌≤◌, ◌<◌, arith}
use Rattle.accuracy.proofs.Prelude.{lit≤, lit<}
use native.Mathlib.Nat.{le_trans, mul-le-mul_right, mul-le-mul_left, mul-le-mul, le_of_mul-le-mul_left}
use lib.Ieee.{Float, binary64, add, mul, of_bits}
use Rattle.routines.specs.Constants.{half}
use Rattle.routines.specs.Exp.{exp_tail, C3, C4, C5, C6}
use Rattle.accuracy.proofs.Rounding.AnyFormat.{Close, plus, less-of, plus-le, less-le, unlike-self, unlike-plus}
use Rattle.accuracy.proofs.Rounding.Binary64.{L, e, L-pos, L-is, Is, power, pair_of, mul-within, add-within}
use Rattle.accuracy.proofs.Rounding.Binary64.{product-below, product-at-most, small-e, halves}
use Rattle.accuracy.proofs.Steps.TailErrors.{by-constant, times-z, close-weak}
use Rattle.accuracy.proofs.Steps.PolynomialNear.{S, c3, c4, c5, c6}

-- L / S
abbrev pub l : ℕ
l = 262144 * e

pub S-l : S * l ≡ L
S-l = flat e ∙ sym L-is
  where
    flat : (e : ℕ) → 4611686018427387904 * (262144 * e) ≡ 2 ^ 80 * e
    flat e = omega arith

-- ---- the constants
half_is : Is half false (2 ^ 79 * e)
unfolding L e of_bits
half_is = (refl, refl)

C3-is : Is C3 false (c3 * l)
unfolding L e of_bits
C3-is = (refl, refl)

C4-is : Is C4 false (c4 * l)
unfolding L e of_bits
C4-is = (refl, refl)

C5-is : Is C5 false (c5 * l)
unfolding L e of_bits
C5-is = (refl, refl)

C6-is : Is C6 false (c6 * l)
unfolding L e of_bits
C6-is = (refl, refl)

-- ---- the operations in their order, z = r r first
abbrev f0 : Float → Float
f0 r = mul binary64 r r

abbrev f1 : Float → Float
f1 r = mul binary64 r C3

abbrev f2 : Float → Float
f2 r = add binary64 half (f1 r)

abbrev f3 : Float → Float
f3 r = mul binary64 r C5

abbrev f4 : Float → Float
f4 r = add binary64 C4 (f3 r)

abbrev f5 : Float → Float
f5 r = mul binary64 (f0 r) C6

abbrev f6 : Float → Float
f6 r = add binary64 (f4 r) (f5 r)

abbrev f7 : Float → Float
f7 r = mul binary64 (f0 r) (f6 r)

abbrev f8 : Float → Float
f8 r = add binary64 (f2 r) (f7 r)

abbrev f9 : Float → Float
f9 r = mul binary64 (f0 r) (f8 r)

exp_tail-opened : (r : Float) → exp_tail r ≡ f9 r
unfolding exp_tail
exp_tail-opened r = refl

-- ---- numbers about L and e alone
k-z : 11 * 11 * L < 1000 * 1000 * (2 ^ 54 * (2 ^ 14 * e))
unfolding L e
k-z = lit< tt

k-c-small-one : 6 * (c3 * l) ≤ 1 * L
unfolding L e
k-c-small-one = lit≤ tt

k-num-one : 11 * 1 * L < 1000 * 6 * (2 ^ 54 * (2 ^ 18 * e))
unfolding L e
k-num-one = lit< tt

k-c-small-three : 119 * (c5 * l) ≤ 1 * L
unfolding L e
k-c-small-three = lit≤ tt

k-num-three : 11 * 1 * L < 1000 * 119 * (2 ^ 54 * (2 ^ 14 * e))
unfolding L e
k-num-three = lit< tt

k-c-small-five : 719 * (c6 * l) ≤ 1 * L
unfolding L e
k-c-small-five = lit≤ tt

k-num-five : 1 * 1 * L < 8000 * 719 * (2 ^ 54 * (2 ^ 14 * e))
unfolding L e
k-num-five = lit< tt

k-num-seven : 1 * 1 * L < 8000 * 22 * (2 ^ 54 * (2 ^ 14 * e))
unfolding L e
k-num-seven = lit< tt

k-num-nine : 1 * 52 * L < 8000 * 100 * (2 ^ 54 * (2 ^ 14 * e))
unfolding L e
k-num-nine = lit< tt

x22 : 16 * (2 ^ 54 * (2 ^ 22 * e)) ≡ L
unfolding L e
x22 = refl

x26 : 2 ^ 54 * (2 ^ 26 * e) ≡ L
unfolding L e
x26 = refl

c4-size : (24 * (c4 * l) ≤ L) × (L ≤ 25 * (c4 * l))
unfolding L e
c4-size = (lit≤ tt, lit≤ tt)

-- ---- the result
-- the polynomial over T is its value in units
abbrev pub T : ℕ
T = S * L * (L * L) * (L * L)

-- what is known of the result
pub record Result (h : Float) (Q : ℕ) : Type 0 where
  pub H : ℕ
  pub is : Is h false H
  pub near : Close (T * H) Q (T * (2 ^ 16 * e))
  pub small : 4000 * H ≤ L

module _ (r : Float) (σ : Bool) (R : ℕ) (hr : Is r σ R) (small : 1000 * R ≤ 11 * L) where
  pub zed : (g : ℕ) × Is (f0 r) false g × Close (g * L) (R * R) (L * (2 ^ 14 * e))
  zed =
      let p = mul-within r r σ σ R R (2 ^ 14 * e) (power 14 (lit≤ tt)) hr hr
      (product-below 1000 11 1000 11 R R L (2 ^ 54 * (2 ^ 14 * e)) L-pos small small k-z) in
      (p.0, subst (λ (z : Bool). Is (f0 r) z p.0) (unlike-self σ) p.1, p.2)

  Z-small : 8000 * zed.0 ≤ L
  Z-small = go L zed.0 (2 ^ 14 * e) (small-e 14 (lit≤ tt)) (product-at-most 1000 11 1000 11 R R zed.0
      (2 ^ 14 * e) L L-pos small small zed.2.0)
    where
      go : (L z w : ℕ) → 1048576 * w ≤ L → 1000 * 1000 * z ≤ 11 * 11 * L + 1000 * 1000 * w → 8000 * z ≤ L
      go L z w q h = omega arith

  pub one : (g : ℕ) × Is (f1 r) σ g × Close (S * g) (c3 * R) (S * (2 ^ 18 * e))
  one =
      let p = mul-within r C3 σ false R (c3 * l) (2 ^ 18 * e) (power 18 (lit≤ tt)) hr C3-is
      (product-below 1000 11 6 1 R (c3 * l) L (2 ^ 54 * (2 ^ 18 * e)) L-pos small k-c-small-one k-num-one) in (
        p.0,
        subst (λ (z : Bool). Is (f1 r) z p.0) (unlike-plus σ) p.1,
        by-constant S l L p.0 c3 R (2 ^ 18 * e) L-pos S-l p.2,
      )

  pub three : (g : ℕ) × Is (f3 r) σ g × Close (S * g) (c5 * R) (S * (2 ^ 14 * e))
  three =
      let p = mul-within r C5 σ false R (c5 * l) (2 ^ 14 * e) (power 14 (lit≤ tt)) hr C5-is
      (product-below 1000 11 119 1 R (c5 * l) L (2 ^ 54 * (2 ^ 14 * e)) L-pos small k-c-small-three k-num-three) in (
        p.0,
        subst (λ (z : Bool). Is (f3 r) z p.0) (unlike-plus σ) p.1,
        by-constant S l L p.0 c5 R (2 ^ 14 * e) L-pos S-l p.2,
      )

  one-small : 500 * one.0 ≤ L
  one-small = go L one.0 R (2 ^ 18 * e) (small-e 18 (lit≤ tt)) small one.2.0
    where
      go : (L g R w : ℕ) → 1048576 * w ≤ L → 1000 * R ≤ 11 * L → S * g ≤ c3 * R + S * w → 500 * g ≤ L
      go L g R w q h k = omega arith

  three-small : 8000 * three.0 ≤ L
  three-small = go L three.0 R (2 ^ 14 * e) (small-e 14 (lit≤ tt)) small three.2.0
    where
      go : (L g R w : ℕ) → 1048576 * w ≤ L → 1000 * R ≤ 11 * L → S * g ≤ c5 * R + S * w → 8000 * g ≤ L
      go L g R w q h k = omega arith

  pub five : (g : ℕ) × Is (f5 r) false g × Close (S * g) (c6 * zed.0) (S * (2 ^ 14 * e))
  five =
      let p = mul-within (f0 r) C6 false false zed.0 (c6 * l) (2 ^ 14 * e) (power 14 (lit≤ tt)) zed.1 C6-is
      (product-below 8000 1 719 1 zed.0 (c6 * l) L (2 ^ 54 * (2 ^ 14 * e)) L-pos (le_trans Z-small (once L))
      k-c-small-five k-num-five) in
      (p.0, p.1, by-constant S l L p.0 c6 zed.0 (2 ^ 14 * e) L-pos S-l p.2)
    where
      once : (x : ℕ) → x ≤ 1 * x
      once x = omega arith

  five-small : 8000 * five.0 ≤ L
  five-small = go L five.0 zed.0 (2 ^ 14 * e) (small-e 14 (lit≤ tt)) Z-small five.2.0
    where
      go : (L g z w : ℕ) → 1048576 * w ≤ L → 8000 * z ≤ L → S * g ≤ c6 * z + S * w → 8000 * g ≤ L
      go L g z w q h k = omega arith

  pub two : (g : ℕ) × Is (f2 r) false g
      × Close (g + (0 + less-of σ one.0)) (2 ^ 79 * e + plus σ one.0) (2 ^ 26 * e)
  two = add-within half (f1 r) (2 ^ 79 * e) 0 (plus σ one.0) (less-of σ one.0) (2 ^ 26 * e) (power 26 (lit≤ tt))
      (pair_of half false (2 ^ 79 * e) half_is) (pair_of (f1 r) σ one.0 one.1)
      (a L one.0 (plus σ one.0) (less-of σ one.0) (2 ^ 79 * e) (2 ^ 54 * (2 ^ 26 * e)) L-pos halves x26
      one-small (plus-le σ one.0)) (b L one.0 (plus σ one.0) (less-of σ one.0) (2 ^ 79 * e)
      (2 ^ 26 * e) L-pos halves (small-e 26 (lit≤ tt)) one-small (less-le σ one.0))
    where
      a : (L g p m H X : ℕ) → 0 < L → 2 * H ≡ L → X ≡ L → 500 * g ≤ L → p ≤ g → H + p < 0 + m + X
      a L g p m H X h q x k n = omega arith

      b : (L g p m H w : ℕ) → 0 < L → 2 * H ≡ L → 1048576 * w ≤ L → 500 * g ≤ L → m ≤ g → 0 + m + w < H + p
      b L g p m H w h q x k n = omega arith

  pub four : (g : ℕ) × Is (f4 r) false g
      × Close (g + (0 + less-of σ three.0)) (c4 * l + plus σ three.0) (2 ^ 22 * e)
  four = add-within C4 (f3 r) (c4 * l) 0 (plus σ three.0) (less-of σ three.0) (2 ^ 22 * e) (power 22 (lit≤ tt))
      (pair_of C4 false (c4 * l) C4-is) (pair_of (f3 r) σ three.0 three.1)
      (a L three.0 (plus σ three.0) (less-of σ three.0) (c4 * l) (2 ^ 54 * (2 ^ 22 * e)) L-pos c4-size.0
      x22 three-small (plus-le σ three.0)) (b L three.0 (plus σ three.0) (less-of σ three.0) (c4 * l)
      (2 ^ 22 * e) L-pos c4-size.1 (small-e 22 (lit≤ tt)) three-small (less-le σ three.0))
    where
      a : (L g p m H X : ℕ) → 0 < L → 24 * H ≤ L → 16 * X ≡ L → 8000 * g ≤ L → p ≤ g → H + p < 0 + m + X
      a L g p m H X h q x k n = omega arith

      b : (L g p m H w : ℕ) → 0 < L → L ≤ 25 * H → 1048576 * w ≤ L → 8000 * g ≤ L → m ≤ g → 0 + m + w < H + p
      b L g p m H w h q x k n = omega arith

  four-size : (23 * four.0 ≤ L) × (L ≤ 30 * four.0)
  four-size = go L three.0 (plus σ three.0) (less-of σ three.0) four.0 (c4 * l) (2 ^ 22 * e) L-pos c4-size
      (small-e 22 (lit≤ tt)) three-small (plus-le σ three.0) (less-le σ three.0) four.2.0 four.2.1
    where
      go : (L g p m f H w : ℕ) → 0 < L → (24 * H ≤ L) × (L ≤ 25 * H) → 1048576 * w ≤ L → 8000 * g ≤ L → p ≤ g → m ≤ g
          → f + (0 + m) ≤ H + p + w → H + p ≤ f + (0 + m) + w → (23 * f ≤ L) × (L ≤ 30 * f)
      go L g p m f H w h q x k n o a b = (omega (arith, q.0), omega (arith, q.1))

  two_size : (100 * two.0 ≤ 51 * L) × (L ≤ 3 * two.0)
  two_size = go L one.0 (plus σ one.0) (less-of σ one.0) two.0 (2 ^ 79 * e) (2 ^ 26 * e) L-pos halves
      (small-e 26 (lit≤ tt))
      one-small (plus-le σ one.0) (less-le σ one.0) two.2.0 two.2.1
    where
      go : (L g p m f H w : ℕ) → 0 < L → 2 * H ≡ L → 1048576 * w ≤ L → 500 * g ≤ L → p ≤ g → m ≤ g
          → f + (0 + m) ≤ H + p + w → H + p ≤ f + (0 + m) + w → (100 * f ≤ 51 * L) × (L ≤ 3 * f)
      go L g p m f H w h q x k n o a b = (omega arith, omega arith)

  pub six : (g : ℕ) × Is (f6 r) false g × Close (g + (0 + 0)) (four.0 + five.0) (2 ^ 22 * e)
  six = add-within (f4 r) (f5 r) four.0 0 five.0 0 (2 ^ 22 * e) (power 22 (lit≤ tt))
      (pair_of (f4 r) false four.0 four.1) (pair_of (f5 r) false five.0 five.1)
      (a L four.0 five.0 (2 ^ 54 * (2 ^ 22 * e)) L-pos x22 four-size.0 five-small)
      (b L four.0 five.0 (2 ^ 22 * e) L-pos (small-e 22 (lit≤ tt)) four-size.1)
    where
      a : (L f g X : ℕ) → 0 < L → 16 * X ≡ L → 23 * f ≤ L → 8000 * g ≤ L → f + g < 0 + 0 + X
      a L f g X h q k n = omega arith

      b : (L f g w : ℕ) → 0 < L → 1048576 * w ≤ L → L ≤ 30 * f → 0 + 0 + w < f + g
      b L f g w h q k = omega arith

  pub six-close : Close six.0 (four.0 + five.0) (2 ^ 22 * e)
  six-close = (omega (arith, six.2.0), omega (arith, six.2.1))

  six-small : 22 * six.0 ≤ L
  six-small = go L four.0 five.0 six.0 (2 ^ 22 * e) (small-e 22 (lit≤ tt)) four-size.0 five-small
      six-close.0
    where
      go : (L f g s w : ℕ) → 1048576 * w ≤ L → 23 * f ≤ L → 8000 * g ≤ L → s ≤ f + g + w → 22 * s ≤ L
      go L f g s w q k n m = omega arith

  zl : 8000 * zed.0 ≤ 1 * L
  zl = omega (arith, Z-small)

  pub seven : (g : ℕ) × Is (f7 r) false g × Close (g * L) (zed.0 * six.0) (L * (2 ^ 14 * e))
  seven = mul-within (f0 r) (f6 r) false false zed.0 six.0 (2 ^ 14 * e) (power 14 (lit≤ tt)) zed.1 six.1
      (product-below 8000 1 22 1 zed.0 six.0 L (2 ^ 54 * (2 ^ 14 * e)) L-pos zl
      (omega (arith, six-small)) k-num-seven)

  seven-small : 8000 * seven.0 ≤ L
  seven-small = go L seven.0 (2 ^ 14 * e) (small-e 14 (lit≤ tt)) (product-at-most 8000 1 22 1 zed.0 six.0
      seven.0 (2 ^ 14 * e) L L-pos zl (omega (arith, six-small)) seven.2.0)
    where
      go : (L z w : ℕ) → 1048576 * w ≤ L → 8000 * 22 * z ≤ 1 * 1 * L + 8000 * 22 * w → 8000 * z ≤ L
      go L z w q h = omega arith

  pub eight : (g : ℕ) × Is (f8 r) false g × Close (g + (0 + 0)) (two.0 + seven.0) (2 ^ 26 * e)
  eight = add-within (f2 r) (f7 r) two.0 0 seven.0 0 (2 ^ 26 * e) (power 26 (lit≤ tt))
      (pair_of (f2 r) false two.0 two.1) (pair_of (f7 r) false seven.0 seven.1)
      (a L two.0 seven.0 (2 ^ 54 * (2 ^ 26 * e)) L-pos x26 two_size.0 seven-small)
      (b L two.0 seven.0 (2 ^ 26 * e) L-pos (small-e 26 (lit≤ tt)) two_size.1)
    where
      a : (L f g X : ℕ) → 0 < L → X ≡ L → 100 * f ≤ 51 * L → 8000 * g ≤ L → f + g < 0 + 0 + X
      a L f g X h q k n = omega arith

      b : (L f g w : ℕ) → 0 < L → 1048576 * w ≤ L → L ≤ 3 * f → 0 + 0 + w < f + g
      b L f g w h q k = omega arith

  pub eight-close : Close eight.0 (two.0 + seven.0) (2 ^ 26 * e)
  eight-close = (omega (arith, eight.2.0), omega (arith, eight.2.1))

  eight-small : 100 * eight.0 ≤ 52 * L
  eight-small = go L two.0 seven.0 eight.0 (2 ^ 26 * e) (small-e 26 (lit≤ tt)) two_size.0 seven-small
      eight-close.0
    where
      go : (L f g s w : ℕ) → 1048576 * w ≤ L → 100 * f ≤ 51 * L → 8000 * g ≤ L → s ≤ f + g + w → 100 * s ≤ 52 * L
      go L f g s w q k n m = omega arith

  nine : (g : ℕ) × Is (f9 r) false g × Close (g * L) (zed.0 * eight.0) (L * (2 ^ 14 * e))
  nine = mul-within (f0 r) (f8 r) false false zed.0 eight.0 (2 ^ 14 * e) (power 14 (lit≤ tt)) zed.1 eight.1
      (product-below 8000 1 100 52 zed.0 eight.0 L (2 ^ 54 * (2 ^ 14 * e)) L-pos zl eight-small k-num-nine)

  nine-small : 4000 * nine.0 ≤ L
  nine-small = go L nine.0 (2 ^ 14 * e) (small-e 14 (lit≤ tt))
      (product-at-most 8000 1 100 52 zed.0 eight.0 nine.0 (2 ^ 14 * e) L
      L-pos zl eight-small nine.2.0)
    where
      go : (L z w : ℕ) → 1048576 * w ≤ L → 8000 * 100 * z ≤ 1 * 52 * L + 8000 * 100 * w → 4000 * z ≤ L
      go L z w q h = omega arith

  -- R R d ≤ L L b, where d ≤ 8000 b
  squares : (d b : ℕ) → 121 * d ≤ 1000000 * b → R * R * d ≤ L * L * b
  squares d b h = le_of_mul-le-mul_left (flat R L d b (mul-le-mul_right d (mul-le-mul small small))
      (mul-le-mul_left (L * L) h)) (lit< {m = 0} {n = 1000000} tt)
    where
      flat : (R L d b : ℕ) → 1000 * R * (1000 * R) * d ≤ 11 * L * (11 * L) * d
          → L * L * (121 * d) ≤ L * L * (1000000 * b) → 1000000 * (R * R * d) ≤ 1000000 * (L * L * b)
      flat R L d b h k = omega arith

  eight-le : eight.0 ≤ L
  eight-le = omega (arith, eight-small)

  six-le : six.0 ≤ L
  six-le = omega (arith, six-small)

  -- from the inner part on
  pub finish : (q6 q8 : ℕ) → Close (S * L * six.0) q6 (S * L * (2 * (2 ^ 22 * e) + 3 * (2 ^ 14 * e)))
      → ((d : ℕ) → Close (S * L * (L * L) * seven.0) (R * R * q6) (S * L * (L * L) * d) → Close
      (S * L * (L * L) * eight.0) q8 (S * L * (L * L) * (2 * (2 ^ 26 * e) + 2 ^ 18 * e + d)))
      → Result (exp_tail r) (R * R * q8)
  finish q6 q8 i6 i8 =
      let d6 = 2 * (2 ^ 22 * e) + 3 * (2 ^ 14 * e) in
      let t7 = times-z (S * L) L R zed.0 six.0 seven.0 q6 (2 ^ 14 * e) (2 ^ 14 * e) d6 (2 ^ 11 * e) zed.2
      seven.2 i6 six-le (squares d6 (2 ^ 11 * e) (n6 e)) in
      let d7 = 2 ^ 14 * e + 2 ^ 14 * e + 2 ^ 11 * e in
      let t8 = i8 d7 t7 in
      let d8 = 2 * (2 ^ 26 * e) + 2 ^ 18 * e + d7 in
      let t9 = times-z (S * L * (L * L)) L R zed.0 eight.0 nine.0 q8 (2 ^ 14 * e) (2 ^ 14 * e) d8
      (2 ^ 15 * e) zed.2 nine.2 t8 eight-le (squares d8 (2 ^ 15 * e) (n8 e)) in
      record {
        H = nine.0;
        is = subst (λ (z : Float). Is z false nine.0) (sym (exp_tail-opened r)) nine.1;
        near = close-weak (T * nine.0) (R * R * q8) (T * (2 ^ 14 * e + 2 ^ 14 * e + 2 ^ 15 * e)) (T * (2 ^ 16 * e))
            (mul-le-mul_left T (n9 e)) t9;
        small = nine-small;
      }
    where
      n6 : (e : ℕ) → 121 * (2 * (2 ^ 22 * e) + 3 * (2 ^ 14 * e)) ≤ 1000000 * (2 ^ 11 * e)
      n6 e = omega arith

      n8 : (e : ℕ) → 121 * (2 * (2 ^ 26 * e) + 2 ^ 18 * e + (2 ^ 14 * e + 2 ^ 14 * e + 2 ^ 11 * e))
          ≤ 1000000 * (2 ^ 15 * e)
      n8 e = omega arith

      n9 : (e : ℕ) → 2 ^ 14 * e + 2 ^ 14 * e + 2 ^ 15 * e ≤ 2 ^ 16 * e
      n9 e = omega arith
