-- What AnyFormat.antt shows, for binary64 and with its numbers kept shut: L units make 1, and a result below 2 ^ 54 w
-- units is off by at most w, a power of two. Then the digits of a number of units, and bounds of products. Assumes
-- nothing.
use Rattle.accuracy.proofs.Prelude.{◌≡◌, refl, sym, ap, ◌∙◌, subst, Bool, true, false, ℕ, suc, ◌+◌, ◌-◌, ◌*◌}
use Rattle.accuracy.proofs.Prelude.{◌^◌, ◌≤◌, ◌<◌, arith, pow_pos, pow-add, pow_mono}
use native.Mathlib.Nat.{le_trans, le_of_eq, mul-le-mul, mul-le-mul_left, le_of_mul-le-mul_left}
use native.Mathlib.Nat.{lt_of_mul-lt-mul_right, lt_of_le_of_lt, lt_of_lt_of_le, mul-lt-mul_of_pos_right}
use native.Mathlib.Nat.{mul-mul-mul_comm, lt_of_not-le, not-le_of_lt, mul_assoc, mul-le-mul_right}
use lib.Ieee.{Float, binary64, unlike, add, sub, mul, neg, size}
unfoldable pub use Rattle.accuracy.specs.Accuracy.{L, Is}
use Rattle.accuracy.proofs.Rounding.AnyFormat.{Close, Val, plus, less-of, mul-mag, add-val, neg-val, sub-opened}
use Rattle.accuracy.proofs.Rounding.AnyFormat.{sg-own}
use lib.Ieee.Digits.{size-lt, size_reaches}

unfoldable pub bit : ℕ → ℕ
bit j = 2 ^ j

pub L-pos : 0 < L
unfolding L
L-pos = pow_pos 1074

abbrev pub Pair : Float → ℕ → ℕ → Type 0
Pair x p m = Val binary64 x p m

pub pair_of : (x : Float) (s : Bool) (a : ℕ) → Is x s a → Pair x (plus s a) (less-of s a)
unfolding L
pair_of x s a h = record { sign = s; size = a; value = h; is = sg-own s a }

wide : (j : ℕ) → 2 ^ (54 + j) ≡ 2 ^ 54 * bit j
unfolding bit
wide j = pow-add 2 54 j

mul-within-bit : (x y : Float) (s t : Bool) (a b j : ℕ) → Is x s a → Is y t b → 55 + j ≤ 2098
    → a * b < L * (2 ^ 54 * bit j)
    → (g : ℕ) × Is (mul binary64 x y) (unlike s t) g × Close (g * L) (a * b) (L * bit j)
unfolding L bit
mul-within-bit x y s t a b j h k o l = mul-mag binary64 x y s t a b j h k (le_trans (le_of_eq (same j)) o)
    (subst (λ (z : ℕ). a * b < L * z) (sym (wide j)) l)
  where
    same : (j : ℕ) → suc (54 + j) ≡ 55 + j
    same j = omega arith

add-signed-bit : (x y : Float) (p m p' m' j : ℕ) → Pair x p m → Pair y p' m' → 55 + j ≤ 2098
    → p + p' < m + m' + 2 ^ 54 * bit j → m + m' < p + p' + 2 ^ 54 * bit j
    → (s : Bool) × (g : ℕ) × Is (add binary64 x y) s g × Close (plus s g + (m + m')) (p + p' + less-of s g) (bit j)
unfolding L bit
add-signed-bit x y p m p' m' j h k o b1 b2 =
    let r = add-val binary64 x y p m p' m' j h k (le_trans (le_of_eq (same j)) o)
    (subst (λ (z : ℕ). p + p' < m + m' + z) (sym (wide j)) b1)
    (subst (λ (z : ℕ). m + m' < p + p' + z) (sym (wide j)) b2) in
    (r.0, r.1, r.2, r.4)
  where
    same : (j : ℕ) → suc (54 + j) ≡ 55 + j
    same j = omega arith

sub-signed-bit : (x y : Float) (p m p' m' j : ℕ) → Pair x p m → Pair y p' m' → 55 + j ≤ 2098
    → p + m' < m + p' + 2 ^ 54 * bit j → m + p' < p + m' + 2 ^ 54 * bit j
    → (s : Bool) × (g : ℕ) × Is (sub binary64 x y) s g × Close (plus s g + (m + p')) (p + m' + less-of s g) (bit j)
sub-signed-bit x y p m p' m' j h k o b1 b2 =
    let r = add-signed-bit x (neg y) p m m' p' j h (neg-val binary64 y p' m' k) o b1 b2 in
    (r.0, r.1, subst (λ (z : Float). Is z r.0 r.1) (sym (sub-opened binary64 x y)) r.2, r.3)

-- a sum that is above its error is positive
add-within-bit : (x y : Float) (p m p' m' j : ℕ) → Pair x p m → Pair y p' m' → 55 + j ≤ 2098
    → p + p' < m + m' + 2 ^ 54 * bit j → m + m' + bit j < p + p'
    → (g : ℕ) × Is (add binary64 x y) false g × Close (g + (m + m')) (p + p') (bit j)
add-within-bit x y p m p' m' j h k o b1 b2 = go r.0 r.1 r.2 r.3
  where
    less2 : (a b e z : ℕ) → a + e < b → a < b + z
    less2 a b e z h = omega arith

    r : (s : Bool) × (g : ℕ) × Is (add binary64 x y) s g × Close (plus s g + (m + m')) (p + p' + less-of s g) (bit j)
    r = add-signed-bit x y p m p' m' j h k o b1 (less2 (m + m') (p + p') (bit j) (2 ^ 54 * bit j) b2)

    go : (s : Bool) (g : ℕ) → Is (add binary64 x y) s g → Close (plus s g + (m + m')) (p + p' + less-of s g) (bit j)
        → (g : ℕ) × Is (add binary64 x y) false g × Close (g + (m + m')) (p + p') (bit j)
    go false g v c = (g, v, (omega (arith, c.0), omega (arith, c.1)))
    go true g v c = absurd (never g c.1)
      where
        never : (g : ℕ) → p + p' + g ≤ 0 + (m + m') + bit j → ⊥
        never g h = omega (arith, b2)

-- ---- w is a power of two that may be an error
pub record Power (w : ℕ) : Type 0 where
  pub at : ℕ
  pub is : bit at ≡ w
  pub low : 55 + at ≤ 2098

-- 2 ^ -80, in units
unfoldable pub e : ℕ
e = 2 ^ 994

pub L-is : L ≡ 2 ^ 80 * e
unfolding L e
L-is = refl

pub halves : 2 * (2 ^ 79 * e) ≡ L
unfolding L e
halves = refl

pub sixty-fourth : 64 * (2 ^ 54 * (2 ^ 20 * e)) ≡ L
unfolding L e
sixty-fourth = refl

-- an error of 2 ^ k e is small against 1
pub small-e : (k : ℕ) → k ≤ 60 → 1048576 * (2 ^ k * e) ≤ L
small-e k h =
    le_trans (le_of_eq (sym (mul_assoc (2 ^ 20) (2 ^ k) e) ∙ ap (λ (z : ℕ). z * e) (sym (pow-add 2 20 k))))
    (le_trans (mul-le-mul_right e (pow_mono (more k h))) (le_of_eq (sym L-is)))
  where
    more : (k : ℕ) → k ≤ 60 → 20 + k ≤ 80
    more k h = omega arith

pub power : (k : ℕ) → k ≤ 1000 → Power (2 ^ k * e)
unfolding e bit
power k h = record { at = k + 994; is = pow-add 2 k 994; low = small k h }
  where
    small : (k : ℕ) → k ≤ 1000 → 55 + (k + 994) ≤ 2098
    small k h = omega arith

-- ---- the digits of a number of units
pub digits-53 : (n : ℕ) → 2 ^ 52 ≤ n → 53 ≤ size n
digits-53 n h = lt_of_not-le (λ (j : size n ≤ 52). not-le_of_lt (size-lt n) (le_trans (pow_mono j) h))

-- a place of n is at most 2 ^ -52 of it
pub place-low : (n : ℕ) → 2 ^ 52 ≤ n → 2 ^ 52 * 2 ^ (size n - 53) ≤ n
place-low n h = le_trans (le_of_eq (sym (pow-add 2 52 (size n - 53))))
    (size_reaches n (52 + (size n - 53)) (full (size n) (digits-53 n h)))
  where
    full : (z : ℕ) → 53 ≤ z → 52 + (z - 53) < z
    full z h = omega arith

-- ---- bounds of products
pub product-below : (n1 m1 n2 m2 a b L X : ℕ) → 0 < L → n1 * a ≤ m1 * L → n2 * b ≤ m2 * L → m1 * m2 * L < n1 * n2 * X
    → a * b < L * X
product-below n1 m1 n2 m2 a b L X h_l h k l =
    lt_of_mul-lt-mul_right (n1 * n2) (lt_of_le_of_lt
    (le_trans (le_of_eq (e1 n1 n2 a b)) (le_trans (mul-le-mul h k) (le_of_eq (e2 m1 m2 L))))
    (lt_of_lt_of_le (mul-lt-mul_of_pos_right l h_l) (le_of_eq (e3 n1 n2 X L))))
  where
    e1 : (n1 n2 a b : ℕ) → a * b * (n1 * n2) ≡ n1 * a * (n2 * b)
    e1 n1 n2 a b = omega arith

    e2 : (m1 m2 L : ℕ) → m1 * L * (m2 * L) ≡ m1 * m2 * L * L
    e2 m1 m2 L = omega arith

    e3 : (n1 n2 X L : ℕ) → n1 * n2 * X * L ≡ L * X * (n1 * n2)
    e3 n1 n2 X L = omega arith

-- g is a b / L up to w
pub product-at-most : (n1 m1 n2 m2 a b g w L : ℕ) → 0 < L → n1 * a ≤ m1 * L → n2 * b ≤ m2 * L → g * L ≤ a * b + L * w
    → n1 * n2 * g ≤ m1 * m2 * L + n1 * n2 * w
product-at-most n1 m1 n2 m2 a b g w L h_l h k l =
    le_of_mul-le-mul_left
    (flat n1 n2 (m1 * m2) a b g w L (le_trans (le_of_eq (mul-mul-mul_comm n1 n2 a b))
    (le_trans (mul-le-mul h k) (le_of_eq (e2 m1 m2 L)))) (mul-le-mul_left (n1 * n2) l)) h_l
  where
    e2 : (m1 m2 L : ℕ) → m1 * L * (m2 * L) ≡ m1 * m2 * L * L
    e2 m1 m2 L = omega arith

    flat : (n1 n2 m a b g w L : ℕ) → n1 * n2 * (a * b) ≤ m * L * L → n1 * n2 * (g * L) ≤ n1 * n2 * (a * b + L * w)
        → L * (n1 * n2 * g) ≤ L * (m * L + n1 * n2 * w)
    flat n1 n2 m a b g w L h k = omega arith

pub mul-within : (x y : Float) (s t : Bool) (a b w : ℕ) → Power w → Is x s a → Is y t b → a * b < L * (2 ^ 54 * w)
    → (g : ℕ) × Is (mul binary64 x y) (unlike s t) g × Close (g * L) (a * b) (L * w)
mul-within x y s t a b w u h k l =
    subst (λ (z : ℕ). (g : ℕ) × Is (mul binary64 x y) (unlike s t) g × Close (g * L) (a * b) (L * z)) u.is
    (mul-within-bit x y s t a b u.at h k u.low (subst (λ (z : ℕ). a * b < L * (2 ^ 54 * z)) (sym u.is) l))

pub add-within : (x y : Float) (p m p' m' w : ℕ) → Power w → Pair x p m → Pair y p' m' → p + p' < m + m' + 2 ^ 54 * w
    → m + m' + w < p + p' → (g : ℕ) × Is (add binary64 x y) false g × Close (g + (m + m')) (p + p') w
add-within x y p m p' m' w u h k b1 b2 =
    subst (λ (z : ℕ). (g : ℕ) × Is (add binary64 x y) false g × Close (g + (m + m')) (p + p') z) u.is
    (add-within-bit x y p m p' m' u.at h k u.low
    (subst (λ (z : ℕ). p + p' < m + m' + 2 ^ 54 * z) (sym u.is) b1)
    (subst (λ (z : ℕ). m + m' + z < p + p') (sym u.is) b2))

pub add-signed : (x y : Float) (p m p' m' w : ℕ) → Power w → Pair x p m → Pair y p' m' → p + p' < m + m' + 2 ^ 54 * w
    → m + m' < p + p' + 2 ^ 54 * w
    → (s : Bool) × (g : ℕ) × Is (add binary64 x y) s g × Close (plus s g + (m + m')) (p + p' + less-of s g) w
add-signed x y p m p' m' w u h k b1 b2 =
    subst (λ (z : ℕ). (s : Bool) × (g : ℕ) × Is (add binary64 x y) s g × Close (plus s g + (m + m'))
    (p + p' + less-of s g) z) u.is
    (add-signed-bit x y p m p' m' u.at h k u.low
    (subst (λ (z : ℕ). p + p' < m + m' + 2 ^ 54 * z) (sym u.is) b1)
    (subst (λ (z : ℕ). m + m' < p + p' + 2 ^ 54 * z) (sym u.is) b2))

pub sub-signed : (x y : Float) (p m p' m' w : ℕ) → Power w → Pair x p m → Pair y p' m' → p + m' < m + p' + 2 ^ 54 * w
    → m + p' < p + m' + 2 ^ 54 * w
    → (s : Bool) × (g : ℕ) × Is (sub binary64 x y) s g × Close (plus s g + (m + p')) (p + m' + less-of s g) w
sub-signed x y p m p' m' w u h k b1 b2 =
    subst (λ (z : ℕ). (s : Bool) × (g : ℕ) × Is (sub binary64 x y) s g × Close (plus s g + (m + p'))
    (p + m' + less-of s g) z) u.is
    (sub-signed-bit x y p m p' m' u.at h k u.low
    (subst (λ (z : ℕ). p + m' < m + p' + 2 ^ 54 * z) (sym u.is) b1)
    (subst (λ (z : ℕ). m + p' < p + m' + 2 ^ 54 * z) (sym u.is) b2))
