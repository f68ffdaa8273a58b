-- Step 7 before its last product, y + y ((D + r) + h): it is n units, rounded once, and n is y (1 + D + r + h) up to
-- 2 ^ -58 of y. Assumes nothing.
use Rattle.accuracy.proofs.Prelude.{◌≡◌, refl, sym, ap, subst, Bool, true, false, ℕ, ◌+◌, ◌-◌, ◌*◌, ◌/◌, ◌%◌}
use Rattle.accuracy.proofs.Prelude.{◌^◌, ◌≤◌, ◌<◌, compare, arith, lit≤, pow_pos}
use native.Mathlib.Nat.{le_trans, le_of_eq, mul-le-mul_right, mul-le-mul_left, mul-pos, le_of_mul-le-mul_left}
use native.Mathlib.Nat.{mul-div_cancel, le-div_iff_mul-le}
use lib.Ieee.{Float, binary64, add, mul, size}
use lib.Ieee.Nearest.{closest, nearest-ge}
use lib.Ieee.Scale.{grid}
use Rattle.routines.specs.Exp.{scaled_by}
use Rattle.routines.specs.Units.{Off}
use Rattle.routines.proofs.Rounding.{Half, rounded, scaled}
use Rattle.accuracy.proofs.Rounding.AnyFormat.{Close, plus, less-of, add-rel, plus-le, less-le, unlike-minus}
use Rattle.accuracy.proofs.Rounding.Binary64.{L, e, L-pos, Is, Pair, Power, power, pair_of, mul-within}
use Rattle.accuracy.proofs.Rounding.Binary64.{add-signed, place-low, small-e, sixty-fourth}
use Rattle.accuracy.proofs.Steps.TailErrors.{close-scale}

scaled-opened : (y d r h : Float)
    → scaled_by y d r h ≡ add binary64 y (mul binary64 y (add binary64 (add binary64 d r) h))
unfolding scaled_by
scaled-opened y d r h = refl

rel : (x y : Float) (p m p' m' : ℕ) → Pair x p m → Pair y p' m' → m + m' < p + p' → (p + p') * 2 < 2 ^ 2098
    → (n : ℕ) × Is (add binary64 x y) false (rounded binary64 n) × (p + p' ≡ m + m' + n)
    × Off (2 ^ 53) (rounded binary64 n) n
unfolding L
rel x y p m p' m' h k l o = add-rel binary64 x y p m p' m' h k l o

-- v is n units, rounded once: off by half a place at most, and a place is at most 2 ^ -52 of it
pub record Rounded (v : Float) (n : ℕ) : Type 0 where
  pub g : ℕ
  pub is : Is v false g
  pub off : Off (2 ^ 53) g n
  pub half : Half g n (2 ^ (size n - 53))
  pub low : 2 ^ 52 * 2 ^ (size n - 53) ≤ g

half_back : (g n l z : ℕ) → 0 < l → Half (g * l) (n * l) (l * z) → Half g n z
half_back g n l z p h = (le_of_mul-le-mul_left (a g n l z h.0) p, le_of_mul-le-mul_left (a n g l z h.1) p)
  where
    a : (g n l z : ℕ) → g * l * 2 ≤ n * l * 2 + l * z → l * (g * 2) ≤ l * (n * 2 + z)
    a g n l z h = omega arith

rounded-half : (n : ℕ) → Half (rounded binary64 n) n (2 ^ (size n - 53))
unfolding rounded L
rounded-half n = half_back (grid binary64 n L) n L (2 ^ (size n - 53)) L-pos
    (subst (λ (z : ℕ). Half (grid binary64 n L * L) (n * L) (L * 2 ^ (size z - 53))) (mul-div_cancel n L-pos)
    (scaled binary64 n L L-pos))

rounded-low : (n : ℕ) → 2 ^ 52 ≤ n → 2 ^ 52 * 2 ^ (size n - 53) ≤ rounded binary64 n
unfolding rounded L
rounded-low n h = subst (λ (z : ℕ). 2 ^ 52 * 2 ^ (size n - 53) ≤ closest (n * L)
    (L * 2 ^ (size z - 53)) * 2 ^ (size z - 53)) (sym (mul-div_cancel n L-pos))
    (mul-le-mul_right (2 ^ k) (le_trans ((le-div_iff_mul-le (mul-pos L-pos (pow_pos k))).1 enough)
    (nearest-ge (n * L / (L * 2 ^ k)) (compare (n * L % (L * 2 ^ k) * 2) (L * 2 ^ k)))))
  where
    k : ℕ
    k = size n - 53

    enough : 2 ^ 52 * (L * 2 ^ k) ≤ n * L
    enough = le_trans (le_of_eq (turn (2 ^ 52) L (2 ^ k))) (mul-le-mul_right L (place-low n h))
      where
        turn : (a l z : ℕ) → a * (l * z) ≡ a * z * l
        turn a l z = omega arith

-- what is known of step 7's result
pub record Seventh (v : Float) (Y dp dm rp rm H w : ℕ) : Type 0 where
  pub n : ℕ
  pub rounds : Rounded v n
  pub near : Close (n * L + Y * (dm + rm)) (Y * (L + dp + rp + H)) (L * w + Y * (2 ^ 21 * e))

module _ (y d r h : Float) (Y dp dm rp rm H w : ℕ) (pw : Power w) (hy : Is y false Y) (hd : Pair d dp dm)
    (hr : Pair r rp rm) (hh : Is h false H)
    (y-low : 2 ^ 59 * w ≤ Y) (y-high : Y ≤ 2 ^ 60 * w) (w-pos : 0 < w) (y-top : Y * 4 < 2 ^ 2098)
    (d_small : (2 ^ 20 * dp ≤ L) × (2 ^ 20 * dm ≤ L)) (r_small : (1000 * rp ≤ 11 * L) × (1000 * rm ≤ 11 * L))
    (h-small : 4000 * H ≤ L) where
  first : (s : Bool) × (g : ℕ) × Is (add binary64 d r) s g
      × Close (plus s g + (dm + rm)) (dp + rp + less-of s g) (2 ^ 20 * e)
  first = add-signed d r dp dm rp rm (2 ^ 20 * e) (power 20 (lit≤ tt)) hd hr
      (a L dp rp (dm + rm) (2 ^ 54 * (2 ^ 20 * e)) L-pos sixty-fourth d_small.0 r_small.0)
      (a L dm rm (dp + rp) (2 ^ 54 * (2 ^ 20 * e)) L-pos sixty-fourth d_small.1 r_small.1)
    where
      a : (L d r m X : ℕ) → 0 < L → 64 * X ≡ L → 1048576 * d ≤ L → 1000 * r ≤ 11 * L → d + r < m + X
      a L d r m X h q k n = omega arith

  first_small : (2000 * plus first.0 first.1 ≤ 23 * L) × (2000 * less-of first.0 first.1 ≤ 23 * L)
  first_small = go first.0 first.1 first.3
    where
      go : (s : Bool) (g : ℕ) → Close (plus s g + (dm + rm)) (dp + rp + less-of s g) (2 ^ 20 * e)
          → (2000 * plus s g ≤ 23 * L) × (2000 * less-of s g ≤ 23 * L)
      go false g c = (
        one L g dp rp (dm + rm) (2 ^ 20 * e) (small-e 20 (lit≤ tt)) d_small.0 r_small.0 c.0,
        nothing L,
      )
        where
          one : (L g d r m w : ℕ) → 1048576 * w ≤ L → 1048576 * d ≤ L → 1000 * r ≤ 11 * L → g + m ≤ d + r + 0 + w
              → 2000 * g ≤ 23 * L
          one L g d r m w q k n c = omega arith

          nothing : (L : ℕ) → 2000 * 0 ≤ 23 * L
          nothing L = omega arith
      go true g c = (
        nothing L,
        one L g dm rm (dp + rp) (2 ^ 20 * e) (small-e 20 (lit≤ tt)) d_small.1 r_small.1 c.1,
      )
        where
          one : (L g d r m w : ℕ) → 1048576 * w ≤ L → 1048576 * d ≤ L → 1000 * r ≤ 11 * L → m + g ≤ 0 + (d + r) + w
              → 2000 * g ≤ 23 * L
          one L g d r m w q k n c = omega arith

          nothing : (L : ℕ) → 2000 * 0 ≤ 23 * L
          nothing L = omega arith

  second : (s : Bool) × (g : ℕ) × Is (add binary64 (add binary64 d r) h) s g
      × Close (plus s g + (less-of first.0 first.1 + 0)) (plus first.0 first.1 + H
      + less-of s g) (2 ^ 20 * e)
  second = add-signed (add binary64 d r) h (plus first.0 first.1) (less-of first.0 first.1) H 0 (2 ^ 20 * e)
      (power 20 (lit≤ tt)) (pair_of (add binary64 d r) first.0 first.1 first.2) (pair_of h false H hh)
      (a L (plus first.0 first.1) H (less-of first.0 first.1 + 0) (2 ^ 54 * (2 ^ 20 * e)) L-pos sixty-fourth
      first_small.0 h-small)
      (b L (less-of first.0 first.1) (plus first.0 first.1 + H) (2 ^ 54 * (2 ^ 20 * e)) L-pos sixty-fourth
      first_small.1)
    where
      a : (L f h m X : ℕ) → 0 < L → 64 * X ≡ L → 2000 * f ≤ 23 * L → 4000 * h ≤ L → f + h < m + X
      a L f h m X p q k n = omega arith

      b : (L f m X : ℕ) → 0 < L → 64 * X ≡ L → 2000 * f ≤ 23 * L → f + 0 < m + X
      b L f m X p q k = omega arith

  -- q is d + r + h
  q-is : Close (plus second.0 second.1 + (dm + rm)) (dp + rp + H + less-of second.0 second.1) (2 ^ 21 * e)
  q-is = (
    a (plus second.0 second.1) (less-of second.0 second.1) (plus first.0 first.1)
        (less-of first.0 first.1) (dp + rp) (dm + rm) H e second.3.0 first.3.0,
    b (plus second.0 second.1) (less-of second.0 second.1) (plus first.0 first.1)
        (less-of first.0 first.1) (dp + rp) (dm + rm) H e second.3.1 first.3.1,
  )
    where
      a : (sp sm fp fm p m H e : ℕ) → sp + (fm + 0) ≤ fp + H + sm + 2 ^ 20 * e → fp + m ≤ p + fm + 2 ^ 20 * e
          → sp + m ≤ p + H + sm + 2 ^ 21 * e
      a sp sm fp fm p m H e h k = omega arith

      b : (sp sm fp fm p m H e : ℕ) → fp + H + sm ≤ sp + (fm + 0) + 2 ^ 20 * e → p + fm ≤ fp + m + 2 ^ 20 * e
          → p + H + sm ≤ sp + m + 2 ^ 21 * e
      b sp sm fp fm p m H e h k = omega arith

  q-small : 80 * second.1 ≤ 1 * L
  q-small = go second.0 second.1 second.3
    where
      go : (s : Bool) (g : ℕ)
          → Close (plus s g + (less-of first.0 first.1 + 0)) (plus first.0 first.1 + H
          + less-of s g) (2 ^ 20 * e) → 80 * g ≤ 1 * L
      go false g c = one L g (plus first.0 first.1) H (less-of first.0 first.1) (2 ^ 20 * e)
          (small-e 20 (lit≤ tt))
          first_small.0 h-small c.0
        where
          one : (L g f h m w : ℕ) → 1048576 * w ≤ L → 2000 * f ≤ 23 * L → 4000 * h ≤ L → g + (m + 0) ≤ f + h + 0 + w
              → 80 * g ≤ 1 * L
          one L g f h m w q k n c = omega arith
      go true g c = one L g (less-of first.0 first.1) (plus first.0 first.1 + H) (2 ^ 20 * e)
          (small-e 20 (lit≤ tt))
          first_small.1 c.1
        where
          one : (L g f m w : ℕ) → 1048576 * w ≤ L → 2000 * f ≤ 23 * L → m + g ≤ 0 + (f + 0) + w → 80 * g ≤ 1 * L
          one L g f m w q k c = omega arith

  third : (g : ℕ) × Is (mul binary64 y (add binary64 (add binary64 d r) h)) second.0 g
      × Close (g * L) (Y * second.1) (L * w)
  third =
      let p = mul-within y (add binary64 (add binary64 d r) h) false second.0 Y second.1 w pw hy second.2
      (small Y second.1 L w L-pos w-pos y-high q-small) in (
        p.0,
        subst (λ (z : Bool). Is (mul binary64 y (add binary64 (add binary64 d r) h)) z p.0)
            (unlike-minus second.0) p.1,
        p.2,
      )
    where
      small : (Y q L w : ℕ) → 0 < L → 0 < w → Y ≤ 2 ^ 60 * w → 80 * q ≤ 1 * L → Y * q < L * (2 ^ 54 * w)
      small Y q L w h_l hw h k =
          let m : Y * q ≤ 2 ^ 60 * w * q = mul-le-mul_right q h in
          let n : 80 * q * w ≤ 1 * L * w = mul-le-mul_right w k in
          let p : 0 < L * w = mul-pos h_l hw in
          flat (Y * q) (w * q) (L * w) Y q L w m n p
        where
          flat : (x a b Y q L w : ℕ) → Y * q ≤ 2 ^ 60 * w * q → 80 * q * w ≤ 1 * L * w → 0 < L * w
              → Y * q < L * (2 ^ 54 * w)
          flat x a b Y q L w m n p = omega arith

  third-small : 79 * third.0 ≤ Y
  third-small = go Y second.1 third.0 L w L-pos y-low q-small third.2.0
    where
      go : (Y q g L w : ℕ) → 0 < L → 2 ^ 59 * w ≤ Y → 80 * q ≤ 1 * L → g * L ≤ Y * q + L * w → 79 * g ≤ Y
      go Y q g L w h_l h k c =
          let m : Y * (80 * q) ≤ Y * (1 * L) = mul-le-mul_left Y k in
          let n : 2 ^ 59 * w * L ≤ Y * L = mul-le-mul_right L h in
          le_of_mul-le-mul_left (flat Y q g L w m n c) h_l
        where
          flat : (Y q g L w : ℕ) → Y * (80 * q) ≤ Y * (1 * L) → 2 ^ 59 * w * L ≤ Y * L → g * L ≤ Y * q + L * w
              → L * (79 * g) ≤ L * Y
          flat Y q g L w m n c = omega arith

  pub sum-rounded : Seventh (scaled_by y d r h) Y dp dm rp rm H w
  sum-rounded =
      let s = second.0 in
      let G = third.0 in
      let f = rel y (mul binary64 y (add binary64 (add binary64 d r) h)) Y 0 (plus s G) (less-of s G)
      (pair_of y false Y hy) (pair_of (mul binary64 y (add binary64 (add binary64 d r) h)) s G third.1)
      (pos Y G (less-of s G) (plus s G) (y-pos Y w w-pos y-low) third-small (less-le s G))
      (under Y G (plus s G) (2 ^ 2098) third-small (plus-le s G) y-top) in
      record {
        n = f.0;
        rounds = record {
          g = rounded binary64 f.0;
          is = subst (λ (z : Float). Is z false (rounded binary64 f.0)) (sym (scaled-opened y d r h)) f.1;
          off = f.3;
          half = rounded-half f.0;
          low = rounded-low f.0 (large Y w G (plus s G) (less-of s G) f.0 w-pos y-low third-small (less-le s G)
              f.2);
        };
        near = last s second.1 G f.0 f.2 third.2 q-is;
      }
    where
      y-pos : (Y w : ℕ) → 0 < w → 2 ^ 59 * w ≤ Y → 0 < Y
      y-pos Y w h k = omega arith

      pos : (Y G m p : ℕ) → 0 < Y → 79 * G ≤ Y → m ≤ G → 0 + m < Y + p
      pos Y G m p h k l = omega arith

      under : (Y G p X : ℕ) → 79 * G ≤ Y → p ≤ G → Y * 4 < X → (Y + p) * 2 < X
      under Y G p X k l h = omega arith

      large : (Y w G p m n : ℕ) → 0 < w → 2 ^ 59 * w ≤ Y → 79 * G ≤ Y → m ≤ G → Y + p ≡ 0 + m + n → 2 ^ 52 ≤ n
      large Y w G p m n hw h k l q = omega arith

      last : (s : Bool) (q G n : ℕ) → Y + plus s G ≡ 0 + less-of s G + n → Close (G * L) (Y * q) (L * w)
          → Close (plus s q + (dm + rm)) (dp + rp + H + less-of s q) (2 ^ 21 * e)
          → Close (n * L + Y * (dm + rm)) (Y * (L + dp + rp + H)) (L * w + Y * (2 ^ 21 * e))
      last false q G n v c k =
          let k' = close-scale Y (q + (dm + rm)) (dp + rp + H + 0) (2 ^ 21 * e) k in
          let v' : (Y + G) * L ≡ (0 + 0 + n) * L = ap (λ (z : ℕ). z * L) v in (
            a Y L n G q (dp + rp) (dm + rm) dp rp H w (2 ^ 21 * e) refl v' c.0 k'.0,
            b Y L n G q (dp + rp) (dm + rm) dp rp H w (2 ^ 21 * e) refl v' c.1 k'.1,
          )
        where
          a : (Y L n G q p m dp rp H w z : ℕ) → p ≡ dp + rp → (Y + G) * L ≡ (0 + 0 + n) * L → G * L ≤ Y * q + L * w
              → Y * (q + m) ≤ Y * (dp + rp + H + 0) + Y * z → n * L + Y * m ≤ Y * (L + dp + rp + H) + (L * w + Y * z)
          a Y L n G q p m dp rp H w z t v c k = omega arith

          b : (Y L n G q p m dp rp H w z : ℕ) → p ≡ dp + rp → (Y + G) * L ≡ (0 + 0 + n) * L → Y * q ≤ G * L + L * w
              → Y * (dp + rp + H + 0) ≤ Y * (q + m) + Y * z → Y * (L + dp + rp + H) ≤ n * L + Y * m + (L * w + Y * z)
          b Y L n G q p m dp rp H w z t v c k = omega arith
      last true q G n v c k =
          let k' = close-scale Y (0 + (dm + rm)) (dp + rp + H + q) (2 ^ 21 * e) k in
          let v' : (Y + 0) * L ≡ (0 + G + n) * L = ap (λ (z : ℕ). z * L) v in (
            a Y L n G q (dm + rm) dp rp H w (2 ^ 21 * e) v' c.1 k'.0,
            b Y L n G q (dm + rm) dp rp H w (2 ^ 21 * e) v' c.0 k'.1,
          )
        where
          a : (Y L n G q m dp rp H w z : ℕ) → (Y + 0) * L ≡ (0 + G + n) * L → Y * q ≤ G * L + L * w
              → Y * (0 + m) ≤ Y * (dp + rp + H + q) + Y * z → n * L + Y * m ≤ Y * (L + dp + rp + H) + (L * w + Y * z)
          a Y L n G q m dp rp H w z v c k = omega arith

          b : (Y L n G q m dp rp H w z : ℕ) → (Y + 0) * L ≡ (0 + G + n) * L → G * L ≤ Y * q + L * w
              → Y * (dp + rp + H + q) ≤ Y * (0 + m) + Y * z → Y * (L + dp + rp + H) ≤ n * L + Y * m + (L * w + Y * z)
          b Y L n G q m dp rp H w z v c k = omega arith
