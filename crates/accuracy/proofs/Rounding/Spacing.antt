-- How far apart doubles lie, in units: a larger double than W units is at least an `ulp` of W larger, and a smaller one
-- at least an `ulp` of W smaller, or half of that where W is a power of two above the least normal double.
-- Assumes nothing.
use Rattle.accuracy.proofs.Prelude.{◌≡◌, sym, ap, ◌∙◌, subst, ◌⊎◌, inl, inr, Bool, true, false, not, ℕ, suc, ◌+◌}
use Rattle.accuracy.proofs.Prelude.{◌-◌, ◌*◌, ◌^◌, ◌≤◌, ◌<◌, arith, T, leb, leb→le, nleb→lt, lit<, pow-add}
use Rattle.accuracy.proofs.Prelude.{pow_mono, pow-lt, shl_lt}
use native.Mathlib.Nat.{le_refl, le_trans, le_of_eq, le_of_lt, lt_of_le_of_lt, lt_of_lt_of_le, lt_of_not-le}
use native.Mathlib.Nat.{not-le_of_lt, eq-or-lt_of_le, mul_assoc, mul-le-mul_right, lt_of_mul-lt-mul_right}
use lib.Ieee.{size}
use lib.Ieee.Digits.{size-lt, size-le, size_reaches}
use Rattle.accuracy.specs.Accuracy.{ulp}

pub size_mono : (a b : ℕ) → a ≤ b → size a ≤ size b
size_mono a b h = size-le a (size b) (lt_of_le_of_lt h (size-lt b))

pub ulp-mono : (a b : ℕ) → a ≤ b → ulp a ≤ ulp b
ulp-mono a b h = pow_mono (less (size a) (size b) (size_mono a b h))
  where
    less : (a b : ℕ) → a ≤ b → a - 53 ≤ b - 53
    less a b h = omega arith

-- W has at most 53 digits, and then zeros: a double has, by `digits_of`
abbrev pub Digits : ℕ → Type 0
Digits W = (q : ℕ) × (j : ℕ) × (q < 2 ^ 53) × (W ≡ q * 2 ^ j)

-- W is a power of two above 2 ^ 52 units, the least normal double
abbrev pub PowerOf : ℕ → Type 0
PowerOf W = (k : ℕ) × (52 < k) × (W ≡ 2 ^ k)

pub power-digits : (k : ℕ) → Digits (2 ^ k)
power-digits k = (1, k, lit< tt, once (2 ^ k))
  where
    once : (x : ℕ) → x ≡ 1 * x
    once x = omega arith

-- ---- multiples of an `ulp`
abbrev pub Multiple : ℕ → ℕ → Type 0
Multiple u W = (c : ℕ) × (W ≡ c * u)

raised : (i j : ℕ) → i ≤ j → 2 ^ j ≡ 2 ^ (j - i) * 2 ^ i
raised i j h = ap (λ (z : ℕ). 2 ^ z) (back i j h) ∙ pow-add 2 (j - i) i
  where
    back : (i j : ℕ) → i ≤ j → j ≡ j - i + i
    back i j h = omega arith

finer : (i j W : ℕ) → i ≤ j → Multiple (2 ^ j) W → Multiple (2 ^ i) W
finer i j W h (c, e) =
    (c * 2 ^ (j - i), e ∙ ap (λ (z : ℕ). c * z) (raised i j h) ∙ sym (mul_assoc c (2 ^ (j - i)) (2 ^ i)))

fewer : (a b : ℕ) → a ≤ b → a - 53 ≤ b - 53
fewer a b h = omega arith

-- a double is one of its own
pub multiple : (W : ℕ) → Digits W → Multiple (ulp W) W
multiple W (q, j, h, e) =
    let size_few : size W ≤ 53 + j = size-le W (53 + j) (subst (λ (z : ℕ). z < 2 ^ (53 + j)) (sym e) (shl_lt 53 j h)) in
    finer (size W - 53) j W (spare (size W) j size_few) (q, e)
  where
    spare : (z j : ℕ) → z ≤ 53 + j → z - 53 ≤ j
    spare z j h = omega arith

-- and of a smaller number's
multiple-below : (Y W : ℕ) → Y ≤ W → Digits W → Multiple (ulp Y) W
multiple-below Y W h d = finer (size Y - 53) (size W - 53) W (fewer (size Y) (size W) (size_mono Y W h)) (multiple W d)

apart : (u Y W : ℕ) → Multiple u Y → Multiple u W → Y < W → Y + u ≤ W
apart u Y W (a, e) (b, f) h =
    let l : a < b = lt_of_mul-lt-mul_right u (lt_of_le_of_lt (le_of_eq (sym e)) (lt_of_lt_of_le h (le_of_eq f))) in
    le_trans (le_of_eq (ap (λ (z : ℕ). z + u) e ∙ next a u)) (le_trans (mul-le-mul_right u l) (le_of_eq (sym f)))
  where
    next : (a u : ℕ) → a * u + u ≡ suc a * u
    next a u = omega arith

-- ---- a larger double
pub gap-above : (W Y : ℕ) → Digits W → Digits Y → W < Y → W + ulp W ≤ Y
gap-above W Y d c h = apart (ulp W) W Y (multiple W d) (multiple-below W Y (le_of_lt h) c) h

-- ---- a smaller double: its `ulp` is the same, or it lies in a lower binade, below the power of two 2 ^ k ≤ W
lower-binade : (Y W k : ℕ) → Digits W → 52 < k → size Y ≤ k → k < size W → k ≡ 52 + (size W - 53)
    → (Y + ulp W ≤ W) ⊎ PowerOf W
lower-binade Y W k d big under in_use e = elim (eq-or-lt_of_le (size_reaches W k in_use)) [
  | inl q ↦ inr (k, big, sym q)
  | inr l ↦ inl (one_more Y (2 ^ k) (ulp W) W smaller (apart (ulp W) (2 ^ k) W full (multiple W d) l))
]
  where
    smaller : Y < 2 ^ k
    smaller = lt_of_lt_of_le (size-lt Y) (pow_mono under)

    full : Multiple (ulp W) (2 ^ k)
    full = (2 ^ 52, ap (λ (z : ℕ). 2 ^ z) e ∙ pow-add 2 52 (size W - 53))

    one_more : (Y p u W : ℕ) → Y < p → p + u ≤ W → Y + u ≤ W
    one_more Y p u W h k = omega arith

pub gap_below : (Y W : ℕ) → Digits Y → Digits W → Y < W → (Y + ulp W ≤ W) ⊎ PowerOf W
gap_below Y W c d h = elim (eq-or-lt_of_le (fewer (size Y) (size W) (size_mono Y W (le_of_lt h)))) [
  | inl e ↦ inl (subst (λ (z : ℕ). Y + 2 ^ z ≤ W) e (gap-above Y W c d h))
  | inr l ↦ lower (size W - 1) (binade (size Y) (size W) l)
]
  where
    binade : (a b : ℕ) → a - 53 < b - 53 → (52 < b - 1) × (a ≤ b - 1) × (b - 1 < b) × (b - 1 ≡ 52 + (b - 53))
    binade a b h = (omega arith, omega arith, omega arith, omega arith)

    lower : (k : ℕ) → (52 < k) × (size Y ≤ k) × (k < size W) × (k ≡ 52 + (size W - 53)) → (Y + ulp W ≤ W) ⊎ PowerOf W
    lower k (big, under, in_use, e) = lower-binade Y W k d big under in_use e

-- ---- a power of two
size-power : (k : ℕ) → size (2 ^ k) ≡ suc k
size-power k =
    level (size (2 ^ k)) k (size-le (2 ^ k) (suc k) (pow-lt (le_refl (suc k))))
    (lt_of_not-le (λ (h : size (2 ^ k) ≤ k). not-le_of_lt (size-lt (2 ^ k)) (pow_mono h)))
  where
    level : (z k : ℕ) → z ≤ suc k → k < z → z ≡ suc k
    level z k h l = omega arith

-- is 2 ^ 52 of its `ulp`
pub ulp-power : (k : ℕ) → 52 ≤ k → 2 ^ k ≡ 2 ^ 52 * ulp (2 ^ k)
ulp-power k h =
    ap (λ (z : ℕ). 2 ^ z) (split k h)
    ∙ pow-add 2 52 (suc k - 53)
    ∙ ap (λ (z : ℕ). 2 ^ 52 * 2 ^ (z - 53)) (sym (size-power k))
  where
    split : (k : ℕ) → 52 ≤ k → k ≡ 52 + (suc k - 53)
    split k h = omega arith

doubled : (k : ℕ) → 52 < k → 2 ^ k ≡ 2 * 2 ^ (k - 1)
doubled k h = ap (λ (z : ℕ). 2 ^ z) (again k h) ∙ pow-add 2 1 (k - 1)
  where
    again : (k : ℕ) → 52 < k → k ≡ 1 + (k - 1)
    again k h = omega arith

-- and 2 ^ 53 of its half's `ulp`
pub ulp-half : (k : ℕ) → 52 < k → 2 ^ k ≡ 2 ^ 53 * ulp (2 ^ (k - 1))
ulp-half k h = flat (2 ^ k) (2 ^ (k - 1)) (ulp (2 ^ (k - 1))) (doubled k h) (ulp-power (k - 1) (pred k h))
  where
    pred : (k : ℕ) → 52 < k → 52 ≤ k - 1
    pred k h = omega arith

    flat : (W t u : ℕ) → W ≡ 2 * t → t ≡ 2 ^ 52 * u → W ≡ 2 ^ 53 * u
    flat W t u e f = omega arith

-- ---- a double below a power of two: lower by at least an `ulp` of that one's half
pub gap-power : (Y k : ℕ) → Digits Y → 52 < k → Y < 2 ^ k → Y + ulp (2 ^ (k - 1)) ≤ 2 ^ k
gap-power Y k c big h = go (leb t Y) (leb→le t Y) (nleb→lt t Y)
  where
    t : ℕ
    t = 2 ^ (k - 1)

    below : (Y t u W : ℕ) → W ≡ 2 ^ 53 * u → W ≡ 2 * t → Y < t → Y + u ≤ W
    below Y t u W e f h = omega arith

    step : (Y v u W : ℕ) → Y + v ≤ W → u ≤ v → Y + u ≤ W
    step Y v u W h k = omega arith

    go : (b : Bool) → (T b → t ≤ Y) → (T (not b) → Y < t) → Y + ulp t ≤ 2 ^ k
    go true u w = step Y (ulp Y) (ulp t) (2 ^ k) (gap-above Y (2 ^ k) c (power-digits k) h) (ulp-mono t Y (u tt))
    go false u w = below Y t (ulp t) (2 ^ k) (ulp-half k big) (doubled k big) (w tt)
