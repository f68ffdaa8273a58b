-- On which side of e ^ x a number of units lies that is an ulp away from exp's value: a whole ulp is more than the
-- claim allows. Assumes nothing.
use Rattle.accuracy.proofs.Prelude.{◌≡◌, Bool, not, ℕ, ◌+◌, ◌-◌, ◌*◌, ◌^◌, ◌≤◌, ◌<◌, arith, lit≤, lit<, pow_pos}
use native.Mathlib.Nat.{le_trans, le_of_eq, le_of_lt, lt_of_le_of_lt, lt_of_lt_of_le, not-le_of_lt}
use native.Mathlib.Nat.{mul_comm, mul-pos, mul-le-mul_right, mul-lt-mul_of_pos_right}
use lib.Ieee.{size}
use Rattle.accuracy.specs.Accuracy.{L, ulp, hundredths, ExpAtMost, ExpAtLeast, InUlps}
use Rattle.accuracy.specs.Faithful.{Over, Under}
use Rattle.accuracy.proofs.Rounding.Binary64.{L-pos}
use Rattle.accuracy.proofs.Euler.AsClaimed.{reshape}
use Rattle.accuracy.proofs.Steps.ValueAnswers.{by_size}
use Rattle.accuracy.proofs.Claims.BoundsAgree.{bounds-agree}

-- ---- e ^ x ≤ P / Q < Y units
pub over-of : (s : Bool) (X P Q Y : ℕ) → 0 < Q → P * L < Y * Q → ExpAtMost s X L P Q → Over s X Y
over-of s X P Q Y q h k = record {
  bound = reshape s X L P Q Y L L Q q (le_of_eq (mul_comm Q L)) bound k;
  strict = λ l. not-le_of_lt h (le_trans (bounds-agree s X L Y L P Q L-pos l k) (le_of_eq (mul_comm L P)));
}
  where
    bound : L * P ≤ Q * Y
    bound = le_trans (le_of_eq (mul_comm L P)) (le_trans (le_of_lt h) (le_of_eq (mul_comm Y Q)))

-- ---- Y units < P / Q ≤ e ^ x
pub under_of : (s : Bool) (X P Q Y : ℕ) → 0 < Q → Y * Q < P * L → ExpAtLeast s X L P Q → Under s X Y
under_of s X P Q Y q h k = record {
  bound = reshape (not s) X L Q P L Y L Q q bound (le_of_eq (mul_comm L Q)) k;
  strict = λ l. not-le_of_lt h (le_trans (bounds-agree s X L P Q Y L L-pos k l) (le_of_eq (mul_comm Q Y)));
}
  where
    bound : Q * Y ≤ L * P
    bound = le_trans (le_of_eq (mul_comm Q Y)) (le_trans (le_of_lt h) (le_of_eq (mul_comm P L)))

-- ---- a finite value of W units
part-of-ulp : (W : ℕ) → hundredths W * ulp W ≤ 99 * ulp W
part-of-ulp W = mul-le-mul_right (ulp W) (by_size W part (λ (h : W ≤ 2 ^ 52). lit≤ tt) (λ (h : 2 ^ 52 < W). lit≤ tt))
  where
    part : ℕ → ℕ → Type 0
    part z c = c ≤ 99

hundred-pos : 0 < 100 * L
hundred-pos = mul-pos (lit< {m = 0} {n = 100} tt) L-pos

pub ulp-above : (s : Bool) (X W Y : ℕ) → InUlps s X W → W + ulp W ≤ Y → Over s X Y
ulp-above s X W Y k h =
    let t = hundredths W * ulp W in
    let l : 100 * W + t < 100 * Y = less W Y t (ulp W) (pow_pos (size W - 53)) (part-of-ulp W) h in
    over-of s X (100 * W + t) (100 * L) Y hundred-pos (times L (100 * W + t) Y L-pos l) k.under
  where
    less : (W Y t u : ℕ) → 0 < u → t ≤ 99 * u → W + u ≤ Y → 100 * W + t < 100 * Y
    less W Y t u p l h = omega arith

    turn : (L Y : ℕ) → 100 * Y * L ≡ Y * (100 * L)
    turn L Y = omega arith

    times : (L a Y : ℕ) → 0 < L → a < 100 * Y → a * L < Y * (100 * L)
    times L a Y p h = lt_of_lt_of_le (mul-lt-mul_of_pos_right h p) (le_of_eq (turn L Y))

pub ulp-below : (s : Bool) (X W Y : ℕ) → InUlps s X W → Y + ulp W ≤ W → Under s X Y
ulp-below s X W Y k h =
    let t = hundredths W * ulp W in
    let l : 100 * Y < 100 * W - t = less W Y t (ulp W) (pow_pos (size W - 53)) (part-of-ulp W) h in
    under_of s X (100 * W - t) (100 * L) Y hundred-pos (times L (100 * W - t) Y L-pos l) k.over
  where
    less : (W Y t u : ℕ) → 0 < u → t ≤ 99 * u → Y + u ≤ W → 100 * Y < 100 * W - t
    less W Y t u p l h = omega arith

    turn : (L Y : ℕ) → Y * (100 * L) ≡ 100 * Y * L
    turn L Y = omega arith

    times : (L a Y : ℕ) → 0 < L → 100 * Y < a → Y * (100 * L) < a * L
    times L a Y p h = lt_of_le_of_lt (le_of_eq (turn L Y)) (mul-lt-mul_of_pos_right h p)
