-- Where step 7's value is a power of two, or +inf, each smaller double is below e ^ x. Such doubles lie half an ulp
-- apart, and step 7's sum, where it was rounded up to that power, was rounded at that finer place. Assumes nothing.
use Rattle.accuracy.proofs.Prelude.{◌≡◌, sym, ap, ◌∙◌, subst, Bool, true, false, not, ℕ, suc, ◌+◌, ◌-◌, ◌*◌, ◌^◌}
use Rattle.accuracy.proofs.Prelude.{◌≤◌, ◌<◌, arith, T, leb, leb→le, nleb→lt, lit<, pow_pos, pow-add, pow_mono}
use native.Mathlib.Nat.{le_trans, le_of_eq, lt_of_le_of_lt, lt_of_lt_of_le, mul-pos, mul-le-mul_right}
use native.Mathlib.Nat.{lt_of_mul-lt-mul_right, mul-lt-mul_of_pos_right}
use lib.Ieee.{Float, size}
use Rattle.routines.proofs.Rounding.{Half}
use Rattle.accuracy.specs.Accuracy.{L, ulp}
use Rattle.accuracy.specs.Faithful.{Under}
use Rattle.accuracy.proofs.Rounding.Binary64.{L-pos}
use Rattle.accuracy.proofs.Steps.PartsTogether.{sharp}
use Rattle.accuracy.proofs.Rounding.TimesPowerOfTwo.{L-pow}
use Rattle.accuracy.proofs.Steps.ValueAnswers.{pow_lt_back}
use Rattle.accuracy.proofs.Steps.ValueUpTo770.{Valued}
use Rattle.accuracy.proofs.Rounding.Spacing.{Digits, ulp-half, gap-power}
use Rattle.accuracy.proofs.Claims.UlpAway.{under_of}

-- ---- M, which is rounded to N, and a power of two up to N: M is not lower by more than the 2 ^ 54th part of it
near-power : (M N j t : ℕ) → 2 ^ t ≤ N → Half N M (2 ^ j) → 2 ^ 52 * 2 ^ j ≤ M → 2 ^ t * 2 ^ 54 ≤ M * 2 ^ 54 + 2 ^ t
near-power M N j t h half reach = go (leb (2 ^ t) M) (leb→le (2 ^ t) M) (nleb→lt (2 ^ t) M)
  where
    above : (p M : ℕ) → p ≤ M → p * 2 ^ 54 ≤ M * 2 ^ 54 + p
    above p M h = omega arith

    below : (p M N u : ℕ) → p ≤ N → N * 2 ≤ M * 2 + u → 2 ^ 53 * u ≤ p → p * 2 ^ 54 ≤ M * 2 ^ 54 + p
    below p M N u h k l = omega arith

    next : (j t : ℕ) → 52 + j < t → 53 + j ≤ t
    next j t h = omega arith

    place : M < 2 ^ t → 2 ^ 53 * 2 ^ j ≤ 2 ^ t
    place l =
        let k : 52 + j < t = pow_lt_back (52 + j) t (lt_of_le_of_lt (le_trans (le_of_eq (pow-add 2 52 j)) reach) l) in
        le_trans (le_of_eq (sym (pow-add 2 53 j))) (pow_mono (next j t k))

    go : (b : Bool) → (T b → 2 ^ t ≤ M) → (T (not b) → M < 2 ^ t) → 2 ^ t * 2 ^ 54 ≤ M * 2 ^ 54 + 2 ^ t
    go true u w = above (2 ^ t) M (u tt)
    go false u w = below (2 ^ t) M N (2 ^ j) h half.0 (place (w tt))

-- ---- y, which is (2 ^ 53 - 1) v at most, is below M (1 - 1 / (sharp + 1)), where M is 2 ^ 53 v up to its 2 ^ 54th part
numbers : (2 ^ 53 - 1) * 2 ^ 54 * suc sharp < 2 ^ 53 * (2 ^ 54 - 1) * sharp
numbers = lit< tt

-- a / c ≤ A v / c, A f < B g, B v / c ≤ b / c
chain : (a b c v f g A B : ℕ) → 0 < v → A * f < B * g → a * c ≤ A * v → B * v ≤ b * c → a * f < b * g
chain a b c v f g A B p n h k =
    let x : a * c * f ≤ A * v * f = mul-le-mul_right f h in
    let y : A * f * v < B * g * v = mul-lt-mul_of_pos_right n p in
    let z : B * v * g ≤ b * c * g = mul-le-mul_right g k in
    lt_of_mul-lt-mul_right c
    (lt_of_le_of_lt (le_of_eq (swap a f c)) (lt_of_le_of_lt x (lt_of_le_of_lt (le_of_eq (swap A v f))
    (lt_of_lt_of_le y (le_trans (le_of_eq (swap B g v)) (le_trans z (le_of_eq (swap b c g))))))))
  where
    swap : (x y z : ℕ) → x * y * z ≡ x * z * y
    swap x y z = omega arith

apart : (y v M : ℕ) → 0 < v → y + v ≤ 2 ^ 53 * v → 2 ^ 53 * v * 2 ^ 54 ≤ M * 2 ^ 54 + 2 ^ 53 * v
    → y * suc sharp < M * sharp
apart y v M p h k =
    chain y M (2 ^ 54) v (suc sharp) sharp ((2 ^ 53 - 1) * 2 ^ 54) (2 ^ 53 * (2 ^ 54 - 1)) p numbers
    (left y v h) (right v M k)
  where
    left : (y v : ℕ) → y + v ≤ 2 ^ 53 * v → y * 2 ^ 54 ≤ (2 ^ 53 - 1) * 2 ^ 54 * v
    left y v h = omega arith

    right : (v M : ℕ) → 2 ^ 53 * v * 2 ^ 54 ≤ M * 2 ^ 54 + 2 ^ 53 * v → 2 ^ 53 * (2 ^ 54 - 1) * v ≤ M * 2 ^ 54
    right v M k = omega arith

-- ---- THE STEP: Y units, a double below 2 ^ p units, where step 7's value is 2 ^ p units or more
module _ (s : Bool) (X : ℕ) (w : Float) (k : Valued s X w) (Y p : ℕ) (c : Digits Y)
    (big : 52 < p) (h : 2 ^ p * L ≤ k.N) (l : Y < 2 ^ p) where
  abbrev u : ℕ
  u = ulp (2 ^ (p - 1))

  full : 2 ^ p * L ≡ 2 ^ 53 * (u * L)
  full = ap (λ (z : ℕ). z * L) (ulp-half p big) ∙ turn (2 ^ 53) u L
    where
      turn : (a u l : ℕ) → a * u * l ≡ a * (u * l)
      turn a u l = omega arith

  power : 2 ^ (p + 1074) ≡ 2 ^ p * L
  power = pow-add 2 p 1074 ∙ ap (λ (z : ℕ). 2 ^ p * z) (sym L-pow)

  near : 2 ^ 53 * (u * L) * 2 ^ 54 ≤ k.M * 2 ^ 54 + 2 ^ 53 * (u * L)
  near = subst (λ (z : ℕ). z * 2 ^ 54 ≤ k.M * 2 ^ 54 + z) (power ∙ full)
      (near-power k.M k.N k.j (p + 1074) (le_trans (le_of_eq power) h) k.half k.reach)

  below : Y * L + u * L ≤ 2 ^ 53 * (u * L)
  below = le_trans (le_of_eq (sum Y u L)) (le_trans (mul-le-mul_right L (gap-power Y p c big l)) (le_of_eq full))
    where
      sum : (Y u l : ℕ) → Y * l + u * l ≡ (Y + u) * l
      sum Y u l = omega arith

  less : Y * L * suc sharp < k.M * sharp
  less = apart (Y * L) (u * L) k.M (mul-pos (pow_pos (size (2 ^ (p - 1)) - 53)) L-pos) below near

  pub power-under : Under s X Y
  power-under =
      under_of s X (k.M * sharp) (L * L * suc sharp) Y (mul-pos (mul-pos L-pos L-pos) (lit< tt))
      (lt_of_le_of_lt (le_of_eq (turn Y L (suc sharp))) (mul-lt-mul_of_pos_right less L-pos)) k.down
    where
      turn : (Y l s : ℕ) → Y * (l * l * s) ≡ Y * l * s * l
      turn Y l s = omega arith
