-- WHEN A SUM OR A PRODUCT IS -0. What is one unit of the format or more does not round to zero, and a sum or a
-- difference of two `f64` values is a whole number of units.
-- So a sum is -0 only where both are, and a product by 1 or more only where the other factor is. Assumes nothing.
use Rattle.std.proofs.Common.{◌≡◌, ℕ, zero, suc, ◌+◌, ◌-◌, ◌*◌, ◌/◌, ◌%◌, ◌^◌, ◌<◌, ◌≤◌, Bool, true, false, cond}
use Rattle.std.proofs.Common.{◌&&◌, T, eqb, ltb, ℤ, pos, negsuc, sym, refl, ap, ◌∙◌, subst, le_trans, le_of_eq}
use Rattle.std.proofs.Common.{lt_of_lt_of_le, mul-le-mul_right, zero-lt-suc, mul_assoc, mul_comm, add-mul}
use Rattle.std.proofs.Common.{mul-le-mul_left, mul-pos, one-mul, le-div_iff_mul-le, mul-one, mul_right_comm, arith}
use Rattle.std.proofs.Common.{eqb→eq, pow_pos, pow_mono, ltb-true}
use mathlib.Core.Bool.{beq, false≢true}
use Prim.Native.Nat.{compare}
use native.Mathlib.Nat.{mul-sub}
use lib.Ieee.{Float, nan, inf, fin, binary64, up, down, unlike, size, odd, units, round, sum, add, mul, le, lt, eq}
use lib.Ieee.{of_bits, fits}
use lib.Ieee.Digits.{size_reaches, size-lt}
use lib.Ieee.Exact.{HasValue, odd_sign}
use lib.Ieee.Fits.{up_pos, down_pos, round_is}
use lib.Ieee.Nearest.{closest, nearest-ge}
use Rattle.routines.specs.Constants.{one}
use Rattle.routines.proofs.Orders.{one-above-zero}
use Rattle.routines.proofs.Patterns.{rounded-are}
use Rattle.routines.proofs.Products.{or-le}
use Rattle.routines.proofs.Sizes.{in-units}
use Rattle.routines.proofs.Tests.{yes}

-- ---- what a finite value is not
infinite : (s t : Bool) (m : ℕ) (e : ℤ) → inf s ≡ fin t m e → ⊥
infinite s t m e i = let z : ◌≡◌ {A = ℕ} 0 1 = cc in absurd (never z)
  where
    never : ◌≡◌ {A = ℕ} 0 1 → ⊥
    never z = omega arith

unknown : (t : Bool) (m : ℕ) (e : ℤ) → nan ≡ fin t m e → ⊥
unknown t m e i = let z : ◌≡◌ {A = ℕ} 0 1 = cc in absurd (never z)
  where
    never : ◌≡◌ {A = ℕ} 0 1 → ⊥
    never z = omega arith

abbrev unit : ℕ
unit = 2 ^ 1074

-- ---- one unit or more does not round to zero
-- what k digits are dropped of still has a digit
kept-some : (n c : ℕ) → 0 < c → c ≤ n → c * 2 ^ (size (n / c) - 53) ≤ n
kept-some n c C h =
    let q = n / c in
    let Q : 1 ≤ q = (le-div_iff_mul-le C).1 (le_trans (le_of_eq (one-mul c)) h) in
    let z : 0 < size q = some (size q) q Q (size-lt q) in
    let r : 2 ^ (size q - 53) ≤ q = le_trans (pow_mono (less (size q) z))
    (size_reaches q (size q - 1) (last (size q) z)) in
    le_trans (le_of_eq (mul_comm c (2 ^ (size q - 53)))) ((le-div_iff_mul-le C).0 r)
  where
    some : (z q : ℕ) → 1 ≤ q → q < 2 ^ z → 0 < z
    some zero q Q l = absurd (omega arith)
    some (suc z) q Q l = omega arith

    less : (z : ℕ) → 0 < z → z - 53 ≤ z - 1
    less z h = omega arith

    last : (z : ℕ) → 0 < z → z - 1 < z
    last z h = omega arith

no_zero : (d : ℕ) (s : Bool) (q k l : ℕ) (t : Bool) (e : ℤ) → 0 < q → odd d s q k l ≡ fin t 0 e → ⊥
no_zero d s q k l t e Q i =
    let v = subst (λ (x : Float). HasValue x s (q * 2 ^ k) (2 ^ l)) i (odd_sign d s q k l) in
    clash (up e) (2 ^ l) (q * 2 ^ k * down e) v.1 (mul-pos (mul-pos Q (pow_pos k)) (down_pos e))
  where
    clash : (a b c : ℕ) → 0 * a * b ≡ c → 0 < c → ⊥
    clash a b c v h = omega arith

units-some : (s : Bool) (q k : ℕ) (t : Bool) (e : ℤ) → 0 < q → units binary64 s q k ≡ fin t 0 e → ⊥
unfolding units
units-some s q k t e Q = go (ltb (q * 2 ^ k) _)
  where
    go : (b : Bool) → cond b (odd 54 s q k 1074) (inf s) ≡ fin t 0 e → ⊥
    go true i = no_zero 54 s q k 1074 t e Q i
    go false i = absurd (infinite s t 0 e i)

pub rounds-away : (s : Bool) (n c : ℕ) (t : Bool) (e : ℤ) → 0 < c → c ≤ n * unit → round binary64 s n c ≡ fin t 0 e → ⊥
rounds-away s n c t e C h i =
    let k = size (n * unit / c) - 53 in
    let u = c * 2 ^ k in
    let U : 0 < u = mul-pos C (pow_pos k) in
    let w : 1 ≤ n * unit / u = (le-div_iff_mul-le U).1 (le_trans (le_of_eq (one-mul u)) (kept-some (n * unit) c C h)) in
    units-some s (closest (n * unit) u) k t e
    (lt_of_lt_of_le (zero-lt-suc 0) (le_trans w (nearest-ge (n * unit / u) (compare (n * unit % u * 2) u))))
    (sym (round_is binary64 s n c) ∙ i)

-- a rounded value has the sign it was rounded with
pub round-sign : (s : Bool) (n c : ℕ) (t : Bool) (m : ℕ) (e : ℤ) → round binary64 s n c ≡ fin t m e → s ≡ t
round-sign s n c t m e =
    rounded-are binary64 s n c (λ (r : Float). r ≡ fin t m e → s ≡ t)
    (λ (i : inf s ≡ fin t m e). absurd (infinite s t m e i)) (λ (k : ℕ) (g : ℤ) (i : fin s k g ≡ fin t m e). cc)

-- so what is a whole number w of units, and rounds to zero, is zero
whole-zero : (s : Bool) (n c w : ℕ) (t : Bool) (e : ℤ) → 0 < c → n * unit ≡ w * c → round binary64 s n c ≡ fin t 0 e
    → n ≡ 0
whole-zero s zero c w t e C v i = refl
whole-zero s (suc n) c zero t e C v i = absurd (clash (suc n * unit) c v (mul-pos (zero-lt-suc n) (pow_pos 1074)))
  where
    clash : (a c : ℕ) → a ≡ 0 * c → 0 < a → ⊥
    clash a c v h = omega arith
whole-zero s (suc n) c (suc w) t e C v i =
    absurd
    (rounds-away s (suc n) c t e C
    (le_trans (le_trans (le_of_eq (sym (one-mul c))) (mul-le-mul_right c (zero-lt-suc w))) (le_of_eq (sym v))) i)

-- ---- a zero that fits
two_up : (k : ℕ) → 2 ≤ 2 ^ suc k
two_up k = pow_mono (some k)
  where
    some : (k : ℕ) → 1 ≤ suc k
    some k = omega arith

zero-at : (s : Bool) (m : ℕ) (e : ℤ) → T (fits binary64 (fin s m e)) → m ≡ 0 → fin s m e ≡ fin s 0 (pos 0)
unfolding fits
zero-at s zero (pos zero) F z = refl
zero-at s zero (pos (suc k)) F z = absurd (clash (2 ^ suc k) (two_up k) (eqb→eq (2 ^ suc k * 1) 1 F))
  where
    clash : (a : ℕ) → 2 ≤ a → a * 1 ≡ 1 → ⊥
    clash a l h = omega arith
zero-at s zero (negsuc k) F z = absurd (clash (2 ^ suc k) (two_up k) (eqb→eq (1 * 2 ^ suc k) 1 F))
  where
    clash : (a : ℕ) → 2 ≤ a → 1 * a ≡ 1 → ⊥
    clash a l h = omega arith
zero-at s (suc m) e F z = absurd (omega arith)

apart : (a b : ℕ) → a - b ≡ 0 → b < a → ⊥
apart a b z h = omega arith

no_size : (m : ℕ) (e : ℤ) (k : ℕ) → 0 < k → m * up e * k ≡ 0 → m ≡ 0
no_size zero e k K h = refl
no_size (suc m) e k K h = absurd (clash (suc m * up e * k) h (mul-pos (mul-pos (zero-lt-suc m) (up_pos e)) K))
  where
    clash : (a : ℕ) → a ≡ 0 → 0 < a → ⊥
    clash a h l = omega arith

-- ---- THE SUM
abbrev minus-zero : Float
minus-zero = fin true 0 (pos 0)

-- two sizes, a and b over c, that are p and q units
module _ (a b c p q : ℕ) (P : a * unit ≡ p * c) (Q : b * unit ≡ q * c) where
  sum-units : (a + b) * unit ≡ (p + q) * c
  sum-units = add-mul a b unit ∙ ap (λ (x : ℕ). x + b * unit) P ∙ ap (λ (x : ℕ). p * c + x) Q ∙ sym (add-mul p q c)

  less-units : (a - b) * unit ≡ (p - q) * c
  less-units = times a b unit ∙ ap (λ (x : ℕ). x - b * unit) P ∙ ap (λ (x : ℕ). p * c - x) Q ∙ sym (times p q c)
    where
      times : (a b k : ℕ) → (a - b) * k ≡ a * k - b * k
      times a b k =
          mul_comm (a - b) k ∙ mul-sub k a b ∙ ap (λ (x : ℕ). x - k * b) (mul_comm k a)
          ∙ ap (λ (x : ℕ). a * k - x) (mul_comm k b)

-- if their sum is -0, the signs s and t are set, and both sizes are zero
module _ (a b c p q : ℕ) (P : a * unit ≡ p * c) (Q : b * unit ≡ q * c) (C : 0 < c) (g : ℤ) where
  sum-zero : (s t : Bool) → sum binary64 s a t b c ≡ fin true 0 g → (s ≡ true) × (t ≡ true) × (a ≡ 0) × (b ≡ 0)
  unfolding sum
  sum-zero true true i =
      let z = whole-zero true (a + b) c (p + q) true g C (sum-units a b c p q P Q) i in
      (refl, refl, first a b z, second a b z)
    where
      first : (a b : ℕ) → a + b ≡ 0 → a ≡ 0
      first a b h = omega arith

      second : (a b : ℕ) → a + b ≡ 0 → b ≡ 0
      second a b h = omega arith
  sum-zero false false i = absurd (false≢true (round-sign false (a + b) c true 0 g i))
  sum-zero true false i = go (ltb a b) (ltb b a) refl i
    where
      go : (l m : Bool) → ltb b a ≡ m
          → cond l (round binary64 false (b - a) c) (round binary64 (true && m) (a - b) c) ≡ fin true 0 g
          → (true ≡ true) × (false ≡ true) × (a ≡ 0) × (b ≡ 0)
      go true m h i = absurd (false≢true (round-sign false (b - a) c true 0 g i))
      go false false h i = absurd (false≢true (round-sign false (a - b) c true 0 g i))
      go false true h i =
          absurd (apart a b (whole-zero true (a - b) c (p - q) true g C (less-units a b c p q P Q) i) (ltb-true b a h))
  sum-zero false true i = go (ltb a b) refl i
    where
      go : (l : Bool) → ltb a b ≡ l
          → cond l (round binary64 true (b - a) c) (round binary64 (false && ltb b a) (a - b) c) ≡ fin true 0 g
          → (false ≡ true) × (true ≡ true) × (a ≡ 0) × (b ≡ 0)
      go true h i =
          absurd (apart b a (whole-zero true (b - a) c (q - p) true g C (less-units b a c q p Q P) i) (ltb-true a b h))
      go false h i = absurd (false≢true (round-sign false (a - b) c true 0 g i))

-- a sum of `f64` values is -0 only where both are
pub sum-minus-zero : (x y : Float) (g : ℤ) → T (fits binary64 x) → T (fits binary64 y) → add binary64 x y ≡ fin true 0 g
    → (x ≡ minus-zero) × (y ≡ minus-zero)
unfolding add
sum-minus-zero nan y g X Y i = absurd (unknown true 0 g i)
sum-minus-zero (inf s) nan g X Y i = absurd (unknown true 0 g i)
sum-minus-zero (inf s) (inf t) g X Y i = go (beq s t) i
  where
    go : (b : Bool) → cond b (inf s) nan ≡ fin true 0 g → (inf s ≡ minus-zero) × (inf t ≡ minus-zero)
    go true i = absurd (infinite s true 0 g i)
    go false i = absurd (unknown true 0 g i)
sum-minus-zero (inf s) (fin t n d) g X Y i = absurd (infinite s true 0 g i)
sum-minus-zero (fin s m e) nan g X Y i = absurd (unknown true 0 g i)
sum-minus-zero (fin s m e) (inf t) g X Y i = absurd (infinite t true 0 g i)
sum-minus-zero (fin s m e) (fin t n d) g X Y i =
    let u = in-units s m e X in
    let v = in-units t n d Y in
    let first = over m e d (m * 2 ^ u.0) u.2 in
    let second = over n d e (n * 2 ^ v.0) v.2 ∙ ap (λ (c : ℕ). n * 2 ^ v.0 * c) (mul_comm (down d) (down e)) in
    let z = sum-zero (m * up e * down d) (n * up d * down e) (down e * down d) (m * 2 ^ u.0)
    (n * 2 ^ v.0) first second (mul-pos (down_pos e) (down_pos d)) g s t i in
    (is_zero s m e d X z.0 z.2, is_zero t n d e Y z.1 z.3)
  where
    over : (m : ℕ) (e d : ℤ) (p : ℕ) → m * up e * unit ≡ p * down e → m * up e * down d * unit ≡ p * (down e * down d)
    over m e d p h =
        mul_right_comm (m * up e) (down d) unit ∙ ap (λ (x : ℕ). x * down d) h ∙ mul_assoc p (down e) (down d)

    is_zero : (s : Bool) (m : ℕ) (e d : ℤ) → T (fits binary64 (fin s m e)) → s ≡ true → m * up e * down d ≡ 0
        → fin s m e ≡ minus-zero
    is_zero s m e d F h k = zero-at s m e F (no_size m e (down d) (down_pos d) k) ∙ ap (λ (b : Bool). fin b 0 (pos 0)) h

-- ---- THE PRODUCT by 1 or more
-- it is -0 only where the other factor is
pub product-minus-zero : (x y : Float) (g : ℤ) → le one x ≡ true → T (fits binary64 y) → mul binary64 x y ≡ fin true 0 g
    → y ≡ minus-zero
unfolding mul le lt eq of_bits
product-minus-zero nan y g h Y i = absurd (false≢true h)
product-minus-zero (inf s) nan g h Y i = absurd (unknown true 0 g i)
product-minus-zero (inf s) (inf t) g h Y i = absurd (infinite _ true 0 g i)
product-minus-zero (inf s) (fin t n d) g h Y i = go (eqb n 0) i
  where
    go : (b : Bool) → cond b nan (inf (unlike s t)) ≡ fin true 0 g → fin t n d ≡ minus-zero
    go true i = absurd (unknown true 0 g i)
    go false i = absurd (infinite _ true 0 g i)
product-minus-zero (fin true m e) y g h Y i = absurd (false≢true (one-above-zero (fin true m e) h))
product-minus-zero (fin false m e) nan g h Y i = absurd (unknown true 0 g i)
product-minus-zero (fin false m e) (inf t) g h Y i = go (eqb m 0) i
  where
    go : (b : Bool) → cond b nan (inf (unlike false t)) ≡ fin true 0 g → inf t ≡ minus-zero
    go true i = absurd (unknown true 0 g i)
    go false i = absurd (infinite _ true 0 g i)
product-minus-zero (fin false m e) (fin false n d) g h Y i =
    absurd (false≢true (round-sign false (m * up e * (n * up d)) (down e * down d) true 0 g i))
product-minus-zero (fin false m e) (fin true zero d) g h Y i = zero-at true zero d Y refl
product-minus-zero (fin false m e) (fin true (suc n) d) g h Y i =
    absurd
    (rounds-away true (m * up e * (suc n * up d)) (down e * down d) true g (mul-pos (down_pos e) (down_pos d))
    (more (in-units true (suc n) d Y).4) i)
  where
    above : down e ≤ m * up e
    above = le_trans (le_of_eq (sym (flat (down e)))) (le_trans (or-le _ _ (yes h)) (le_of_eq (mul-one (m * up e))))
      where
        flat : (a : ℕ) → 1 * 1 * a ≡ a
        flat a = omega arith

    more : down d ≤ unit → down e * down d ≤ m * up e * (suc n * up d) * unit
    more k =
        le_trans (mul-le-mul_right (down d) above)
        (le_trans
        (mul-le-mul_left (m * up e)
        (le_trans k
        (le_trans (le_of_eq (sym (one-mul unit))) (mul-le-mul_right unit (mul-pos (zero-lt-suc n) (up_pos d))))))
        (le_of_eq (sym (mul_assoc (m * up e) (suc n * up d) unit))))
