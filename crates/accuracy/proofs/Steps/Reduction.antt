-- Step 4: k STEP_HIGH is exact, and where x is k Λ up to 0.0109, r is x - k Λ up to 2 ^ -58, and |r| ≤ 0.011. Λ is
-- STEP_HIGH + STEP_LOW.
-- Assumes nothing.
use Rattle.accuracy.proofs.Prelude.{◌≡◌, refl, sym, ap, ◌∙◌, subst, Bool, true, false, ℕ, ◌+◌, ◌*◌, ◌^◌, ◌≤◌}
use Rattle.accuracy.proofs.Prelude.{◌<◌, arith, lit≤, lit<, pow_pos}
use native.Mathlib.Nat.{le_trans, le_of_eq, lt_of_le_of_lt, lt_of_lt_of_le, mul-le-mul_right, mul-le-mul_left}
use native.Mathlib.Nat.{mul_comm, mul-pos, le_of_mul-le-mul_left, mul-lt-mul_of_pos_right, mul_right_comm}
use lib.Ieee.{Float, binary64, round, sub, mul, of_bits}
use lib.Ieee.Exact.{HasValue, round_exact}
use Rattle.routines.specs.Exp.{STEP_HIGH, STEP_LOW, reduced}
use Rattle.accuracy.proofs.Rounding.AnyFormat.{Close, plus, less-of, mul_is, plus-le, less-le, unlike-plus}
use Rattle.accuracy.proofs.Rounding.AnyFormat.{lower}
use Rattle.accuracy.proofs.Rounding.Binary64.{L, e, L-pos, Is, Pair, power, pair_of, mul-within, sub-signed}
use Rattle.accuracy.proofs.Rounding.Binary64.{small-e, sixty-fourth}

-- the two parts in units
unfoldable pub hi : ℕ
hi = 47632711549 * 2 ^ 1033

unfoldable pub lo : ℕ
lo = 4076771654704541 * 2 ^ 978

hi-is : Is STEP_HIGH false hi
unfolding L hi of_bits
hi-is = (refl, refl)

lo-is : Is STEP_LOW false lo
unfolding L lo of_bits
lo-is = (refl, refl)

lo_small : 65536 * lo < 2 ^ 54 * (2 ^ 0 * e)
unfolding lo e
lo_small = lit< tt

-- THE EXACT PRODUCT: k is a whole number of at most 2 ^ 16
pub k-hi : (k : Float) (s : Bool) (K : ℕ) → Is k s (K * L) → K ≤ 65536 → Is (mul binary64 k STEP_HIGH) s (K * hi)
unfolding L hi
k-hi k s K hk small =
    let q = K * 47632711549 in
    let v = round_exact binary64 s (K * L * hi) (L * L) q 1033 (mul-pos (pow_pos 1074) (pow_pos 1074))
    (lt_of_le_of_lt (mul-le-mul_right 47632711549 small) (lit< tt))
    (lt_of_le_of_lt (mul-le-mul_right (2 ^ 1033) (mul-le-mul_right 47632711549 small)) (lit< tt))
    (turn K L 47632711549 (2 ^ 1033)) in
    lower (mul binary64 k STEP_HIGH) s (K * hi) L L (pow_pos 1074)
    (subst (λ (z : Float). HasValue z s (K * hi * L) (L * L))
    (sym (mul_is binary64 k STEP_HIGH s false (K * L) hi hk hi-is
    ∙ ap (λ (b : Bool). round binary64 b (K * L * hi) (L * L)) (unlike-plus s)))
    (subst (λ (z : ℕ). HasValue (round binary64 s (K * L * hi) (L * L)) s z (L * L)) (mul_right_comm K L hi) v))
  where
    turn : (K L a b : ℕ) → K * L * (a * b) * L ≡ K * a * b * (L * L)
    turn K L a b = omega arith

reduced-opened : (x k : Float) → reduced x k ≡ sub binary64 (sub binary64 x (mul binary64 k STEP_HIGH)) (mul binary64 k STEP_LOW)
unfolding reduced
reduced-opened x k = refl

lo-tiny : 1048576 * (65536 * lo) ≤ L
unfolding L lo
lo-tiny = lit≤ tt

-- k STEP_LOW
k-lo : (k : Float) (s : Bool) (K : ℕ) → Is k s (K * L) → K ≤ 65536
    → (g : ℕ) × Is (mul binary64 k STEP_LOW) s g × Close g (K * lo) e
k-lo k s K hk small =
    let p = mul-within k STEP_LOW s false (K * L) lo (2 ^ 0 * e) (power 0 (lit≤ tt)) hk lo-is
    (fits K L lo (2 ^ 54 * (2 ^ 0 * e)) L-pos (lt_of_le_of_lt (mul-le-mul_right lo small) lo_small)) in (
      p.0,
      subst (λ (b : Bool). Is (mul binary64 k STEP_LOW) b p.0) (unlike-plus s) p.1,
      (
        le_of_mul-le-mul_left (one p.0 K L lo e p.2.0) L-pos,
        le_of_mul-le-mul_left (two p.0 K L lo e p.2.1) L-pos,
      ),
    )
  where
    fits : (K L l X : ℕ) → 0 < L → K * l < X → K * L * l < L * X
    fits K L l X h k = lt_of_le_of_lt (le_of_eq (mul_right_comm K L l))
        (lt_of_lt_of_le (mul-lt-mul_of_pos_right k h) (le_of_eq (mul_comm X L)))

    one : (g K L l e : ℕ) → g * L ≤ K * L * l + L * (2 ^ 0 * e) → L * g ≤ L * (K * l + e)
    one g K L l e h = omega arith

    two : (g K L l e : ℕ) → K * L * l ≤ g * L + L * (2 ^ 0 * e) → L * (K * l) ≤ L * (g + e)
    two g K L l e h = omega arith

plus-add : (s : Bool) (a b : ℕ) → plus s (a + b) ≡ plus s a + plus s b
plus-add false a b = refl
plus-add true a b = refl

less-add : (s : Bool) (a b : ℕ) → less-of s (a + b) ≡ less-of s a + less-of s b
less-add false a b = refl
less-add true a b = refl

pub sign-close : (s : Bool) (a b w : ℕ) → Close a b w → Close (plus s a + less-of s b) (plus s b + less-of s a) w
sign-close false a b w h = (omega (arith, h.0), omega (arith, h.1))
sign-close true a b w h = (omega (arith, h.1), omega (arith, h.0))

-- what is known of r: it is x - K (hi + lo) up to 2 ^ 22 e, and of at most 0.011
pub record Reduced (r : Float) (xp xm P M : ℕ) : Type 0 where
  pub sign : Bool
  pub R : ℕ
  pub is : Is r sign R
  pub small : 1000 * R ≤ 11 * L
  pub near : Close (plus sign R + (xm + P)) (xp + M + less-of sign R) (2 ^ 22 * e)

module _ (x k : Float) (xp xm : ℕ) (s : Bool) (K b : ℕ) (hx : Pair x xp xm) (hk : Is k s (K * L)) (small : K ≤ 65536)
    (b-small : 10000 * b ≤ 109 * L)
    (near1 : xp + less-of s (K * hi + K * lo) ≤ xm + plus s (K * hi + K * lo) + b)
    (near2 : xm + plus s (K * hi + K * lo) ≤ xp + less-of s (K * hi + K * lo) + b) where
  tiny : 1048576 * (K * lo) ≤ L
  tiny = le_trans (mul-le-mul_left 1048576 (mul-le-mul_right lo small)) lo-tiny

  first : (t : Bool) × (g : ℕ) × Is (sub binary64 x (mul binary64 k STEP_HIGH)) t g
      × Close (plus t g + (xm + plus s (K * hi))) (xp + less-of s (K * hi) + less-of t g) (2 ^ 20 * e)
  first = sub-signed x (mul binary64 k STEP_HIGH) xp xm (plus s (K * hi)) (less-of s (K * hi)) (2 ^ 20 * e)
      (power 20 (lit≤ tt)) hx (pair_of (mul binary64 k STEP_HIGH) s (K * hi) (k-hi k s K hk small))
      (a L b xp xm (plus s (K * hi)) (less-of s (K * hi)) (plus s (K * lo)) (less-of s (K * lo))
      (plus s (K * hi + K * lo)) (less-of s (K * hi + K * lo)) (K * lo) (2 ^ 54 * (2 ^ 20 * e)) L-pos b-small
      sixty-fourth tiny (plus-le s (K * lo)) (plus-add s (K * hi) (K * lo)) (less-add s (K * hi) (K * lo)) near1)
      (c L b xp xm (plus s (K * hi)) (less-of s (K * hi)) (plus s (K * lo)) (less-of s (K * lo))
      (plus s (K * hi + K * lo)) (less-of s (K * hi + K * lo)) (K * lo) (2 ^ 54 * (2 ^ 20 * e)) L-pos b-small
      sixty-fourth tiny (less-le s (K * lo)) (plus-add s (K * hi) (K * lo)) (less-add s (K * hi) (K * lo)) near2)
    where
      a : (L b xp xm hp hm lp lm P M t X : ℕ) → 0 < L → 10000 * b ≤ 109 * L → 64 * X ≡ L → 1048576 * t ≤ L → lp ≤ t
          → P ≡ hp + lp → M ≡ hm + lm → xp + M ≤ xm + P + b → xp + hm < xm + hp + X
      a L b xp xm hp hm lp lm P M t X z h k l m p q n = omega arith

      c : (L b xp xm hp hm lp lm P M t X : ℕ) → 0 < L → 10000 * b ≤ 109 * L → 64 * X ≡ L → 1048576 * t ≤ L → lm ≤ t
          → P ≡ hp + lp → M ≡ hm + lm → xm + P ≤ xp + M + b → xm + hp < xp + hm + X
      c L b xp xm hp hm lp lm P M t X z h k l m p q n = omega arith

  second : (g : ℕ) × Is (mul binary64 k STEP_LOW) s g × Close g (K * lo) e
  second = k-lo k s K hk small

  -- y - k STEP_LOW, exactly, is x - K (hi + lo) up to 2 ^ 20 e + e
  exact : (t : Bool) (g h : ℕ)
      → Close (plus t g + (xm + plus s (K * hi))) (xp + less-of s (K * hi) + less-of t g) (2 ^ 20 * e)
      → Close h (K * lo) e
      → Close (plus t g + less-of s h + (xm + plus s (K * hi + K * lo)))
      (xp + less-of s (K * hi + K * lo) + (less-of t g + plus s h)) (2 ^ 20 * e + e)
  exact t g h c d =
      let w = sign-close s h (K * lo) e d in (
        one (plus t g) (less-of t g) (plus s h) (less-of s h) xp xm (plus s (K * hi)) (less-of s (K * hi))
            (plus s (K * lo)) (less-of s (K * lo)) (plus s (K * hi + K * lo)) (less-of s (K * hi + K * lo))
            (2 ^ 20 * e) e (plus-add s (K * hi) (K * lo)) (less-add s (K * hi) (K * lo)) c.0 w.1,
        two (plus t g) (less-of t g) (plus s h) (less-of s h) xp xm (plus s (K * hi)) (less-of s (K * hi))
            (plus s (K * lo)) (less-of s (K * lo)) (plus s (K * hi + K * lo)) (less-of s (K * hi + K * lo))
            (2 ^ 20 * e) e (plus-add s (K * hi) (K * lo)) (less-add s (K * hi) (K * lo)) c.1 w.0,
      )
    where
      one : (gp gm hp hm xp xm ip im lp lm P M u v : ℕ) → P ≡ ip + lp → M ≡ im + lm
          → gp + (xm + ip) ≤ xp + im + gm + u → lp + hm ≤ hp + lm + v
          → gp + hm + (xm + P) ≤ xp + M + (gm + hp) + (u + v)
      one gp gm hp hm xp xm ip im lp lm P M u v p q c d = omega arith

      two : (gp gm hp hm xp xm ip im lp lm P M u v : ℕ) → P ≡ ip + lp → M ≡ im + lm
          → xp + im + gm ≤ gp + (xm + ip) + u → hp + lm ≤ lp + hm + v
          → xp + M + (gm + hp) ≤ gp + hm + (xm + P) + (u + v)
      two gp gm hp hm xp xm ip im lp lm P M u v p q c d = omega arith

  ex : Close (plus first.0 first.1 + less-of s second.0 + (xm + plus s (K * hi + K * lo))) (xp
      + less-of s (K * hi + K * lo) + (less-of first.0 first.1 + plus s second.0)) (2 ^ 20 * e + e)
  ex = exact first.0 first.1 second.0 first.3 second.2

  e21 : 1048576 * (2 ^ 20 * e + e) ≤ L
  e21 = le_trans (mul-le-mul_left 1048576 (flat e)) (small-e 22 (lit≤ tt))
    where
      flat : (e : ℕ) → 2 ^ 20 * e + e ≤ 2 ^ 22 * e
      flat e = omega arith

  third : (t : Bool) × (g : ℕ) × Is (sub binary64 (sub binary64 x (mul binary64 k STEP_HIGH)) (mul binary64 k STEP_LOW)) t g
      × Close (plus t g + (less-of first.0 first.1 + plus s second.0)) (plus first.0 first.1
      + less-of s second.0 + less-of t g) (2 ^ 20 * e)
  third = sub-signed (sub binary64 x (mul binary64 k STEP_HIGH)) (mul binary64 k STEP_LOW) (plus first.0 first.1)
      (less-of first.0 first.1) (plus s second.0) (less-of s second.0) (2 ^ 20 * e) (power 20 (lit≤ tt))
      (pair_of (sub binary64 x (mul binary64 k STEP_HIGH)) first.0 first.1 first.2)
      (pair_of (mul binary64 k STEP_LOW) s second.0 second.1)
      (a L b xp xm (plus s (K * hi + K * lo)) (less-of s (K * hi + K * lo))
      (plus first.0 first.1 + less-of s second.0) (less-of first.0 first.1 + plus s second.0)
      (2 ^ 20 * e + e) (2 ^ 54 * (2 ^ 20 * e)) L-pos b-small sixty-fourth e21 near1 ex.0)
      (c L b xp xm (plus s (K * hi + K * lo)) (less-of s (K * hi + K * lo))
      (plus first.0 first.1 + less-of s second.0) (less-of first.0 first.1 + plus s second.0)
      (2 ^ 20 * e + e) (2 ^ 54 * (2 ^ 20 * e)) L-pos b-small sixty-fourth e21 near2 ex.1)
    where
      a : (L b xp xm P M gp gm u X : ℕ) → 0 < L → 10000 * b ≤ 109 * L → 64 * X ≡ L → 1048576 * u ≤ L
          → xp + M ≤ xm + P + b → gp + (xm + P) ≤ xp + M + gm + u → gp < gm + X
      a L b xp xm P M gp gm u X z h k l m n = omega arith

      c : (L b xp xm P M gp gm u X : ℕ) → 0 < L → 10000 * b ≤ 109 * L → 64 * X ≡ L → 1048576 * u ≤ L
          → xm + P ≤ xp + M + b → xp + M + gm ≤ gp + (xm + P) + u → gm < gp + X
      c L b xp xm P M gp gm u X z h k l m n = omega arith

  close-r : Close (plus third.0 third.1 + (xm + plus s (K * hi + K * lo))) (xp + less-of s (K * hi + K * lo)
      + less-of third.0 third.1) (2 ^ 22 * e)
  close-r = (
    a xp xm (plus s (K * hi + K * lo)) (less-of s (K * hi + K * lo))
        (plus first.0 first.1 + less-of s second.0) (less-of first.0 first.1 + plus s second.0)
        (plus third.0 third.1) (less-of third.0 third.1) e ex.0 third.3.0,
    c xp xm (plus s (K * hi + K * lo)) (less-of s (K * hi + K * lo))
        (plus first.0 first.1 + less-of s second.0) (less-of first.0 first.1 + plus s second.0)
        (plus third.0 third.1) (less-of third.0 third.1) e ex.1 third.3.1,
  )
    where
      a : (xp xm P M gp gm tp tm e : ℕ) → gp + (xm + P) ≤ xp + M + gm + (2 ^ 20 * e + e)
          → tp + gm ≤ gp + tm + 2 ^ 20 * e → tp + (xm + P) ≤ xp + M + tm + 2 ^ 22 * e
      a xp xm P M gp gm tp tm e h k = omega arith

      c : (xp xm P M gp gm tp tm e : ℕ) → xp + M + gm ≤ gp + (xm + P) + (2 ^ 20 * e + e)
          → gp + tm ≤ tp + gm + 2 ^ 20 * e → xp + M + tm ≤ tp + (xm + P) + 2 ^ 22 * e
      c xp xm P M gp gm tp tm e h k = omega arith

  -- THE REDUCED ARGUMENT
  pub reduced-is : Reduced (reduced x k) xp xm (plus s (K * hi + K * lo)) (less-of s (K * hi + K * lo))
  reduced-is = record {
    sign = third.0;
    R = third.1;
    is = subst (λ (z : Float). Is z third.0 third.1) (sym (reduced-opened x k)) third.2;
    small = go third.0 third.1 close-r;
    near = close-r;
  }
    where
      go : (t : Bool) (R : ℕ)
          → Close (plus t R + (xm + plus s (K * hi + K * lo))) (xp + less-of s (K * hi + K * lo)
          + less-of t R) (2 ^ 22 * e) → 1000 * R ≤ 11 * L
      go false R c = a L b xp xm (plus s (K * hi + K * lo)) (less-of s (K * hi + K * lo)) R (2 ^ 22 * e) b-small
          (small-e 22 (lit≤ tt)) near1 c.0
        where
          a : (L b xp xm P M R w : ℕ) → 10000 * b ≤ 109 * L → 1048576 * w ≤ L → xp + M ≤ xm + P + b
              → R + (xm + P) ≤ xp + M + 0 + w → 1000 * R ≤ 11 * L
          a L b xp xm P M R w h k m n = omega arith
      go true R c = a L b xp xm (plus s (K * hi + K * lo)) (less-of s (K * hi + K * lo)) R (2 ^ 22 * e) b-small
          (small-e 22 (lit≤ tt)) near2 c.1
        where
          a : (L b xp xm P M R w : ℕ) → 10000 * b ≤ 109 * L → 1048576 * w ≤ L → xm + P ≤ xp + M + b
              → xp + M + R ≤ 0 + (xm + P) + w → 1000 * R ≤ 11 * L
          a L b xp xm P M R w h k m n = omega arith
