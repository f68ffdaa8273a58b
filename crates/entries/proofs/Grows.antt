-- A finite value in units of 2 ^ -1074, from its bit pattern, and that its size grows with the pattern. Assumes
-- nothing.
use mathlib.Core.Path.{◌≡◌, refl, sym, ap, subst}
use mathlib.Core.Logic.{inl, inr}
use mathlib.Core.Bool.{Bool, true, false, not, cond}
use Prim.Native.Nat.{ℕ, zero, suc, ◌+◌, ◌-◌, ◌*◌, ◌/◌, ◌%◌, ◌^◌, ◌≤◌, ◌<◌}
use native.Mathlib.Nat.{le_trans, le_of_eq, eq-or-lt_of_le, mul_comm, mul-le-mul_right, pow-succ', lt_irrefl}
use native.Mathlib.Omega.{arith}
use lib.Dec.{T, leb, eqb, leb→le, le→leb, eqb→eq, not_T}
use lib.Pow.{pow_mono}
use lib.Ieee.{Float, nan, inf, binary64, odd, of_fields, of_bits}
use lib.Ieee.Bits.{cond_no, is_true, is_false}
use lib.Ieee.Exact.{HasValue, odd_sign}
use lib.Ieee.Scale.{finite}

-- the sign, and what is left of a pattern without it
abbrev pub sign : ℕ → Bool
sign n = leb (2 ^ 63) n

abbrev pub rest : ℕ → ℕ
rest n = n % 2 ^ 63

-- the exponent's field counts from 1, and 0 stands for 1
abbrev pub shift : ℕ → ℕ
shift n = n / 2 ^ 52 - 1

-- the size in units, of a pattern without its sign
abbrev pub grid : ℕ → ℕ
grid n = (n - shift n * 2 ^ 52) * 2 ^ shift n

-- ---- reading a pattern
fields : (n : ℕ) → of_bits binary64 n ≡ of_fields binary64 (sign n) (rest n / 2 ^ 52) (n % 2 ^ 52)
unfolding of_bits
fields n = refl

not-both : (a b : ℕ) → a < b → T (eqb a b) → ⊥
not-both a b h t = lt_irrefl b (subst (λ (y : ℕ). y < b) (eqb→eq a b t) h)

-- with the leading digit, where there is one
abbrev lead : ℕ → ℕ → ℕ
lead zero t = t
lead (suc x) t = 2 ^ 52 + t

read : (s : Bool) (x t : ℕ) → x < 2047 → HasValue (of_fields binary64 s x t) s (lead x t * 2 ^ (x - 1)) (2 ^ 1074)
unfolding of_fields
read s zero t h = odd_sign 53 s t 0 1074
read s (suc x) t h =
    subst (λ (z : ℕ). HasValue (of_fields binary64 s (suc x) t) s ((2 ^ 52 + t) * 2 ^ z) (2 ^ 1074)) (one_less x)
    (subst (λ (y : Float). HasValue y s ((2 ^ 52 + t) * 2 ^ x) (2 ^ 1074))
    (sym (normal (eqb (suc x) 2047) (not_T (eqb (suc x) 2047) (not-both (suc x) 2047 h))))
    (odd_sign 53 s (2 ^ 52 + t) x 1074))
  where
    one_less : (x : ℕ) → x ≡ suc x - 1
    one_less x = omega arith

    normal : (b : Bool) → T (not b)
        → cond b (cond (eqb t 0) (inf s) nan) (odd 53 s (2 ^ 52 + t) x 1074) ≡ odd 53 s (2 ^ 52 + t) x 1074
    normal b n = cond_no b (cond (eqb t 0) (inf s) nan) (odd 53 s (2 ^ 52 + t) x 1074) n

lead_is : (x t m : ℕ) → m ≡ x * 2 ^ 52 + t → lead x t ≡ m - (x - 1) * 2 ^ 52
lead_is zero t m e = none t m e
  where
    none : (t m : ℕ) → m ≡ 0 * 2 ^ 52 + t → t ≡ m - (0 - 1) * 2 ^ 52
    none t m e = omega arith
lead_is (suc x) t m e = some x t m e
  where
    some : (x t m : ℕ) → m ≡ suc x * 2 ^ 52 + t → 2 ^ 52 + t ≡ m - (suc x - 1) * 2 ^ 52
    some x t m e = omega arith

-- 2047 * 2 ^ 52 is the pattern of +inf
pub has-grid : (n : ℕ) → rest n < 2047 * 2 ^ 52 → HasValue (of_bits binary64 n) (sign n) (grid (rest n)) (2 ^ 1074)
has-grid n h =
    subst (λ (y : Float). HasValue y (sign n) (grid (rest n)) (2 ^ 1074)) (sym (fields n))
    (subst
    (λ (y : ℕ). HasValue (of_fields binary64 (sign n) (rest n / 2 ^ 52) (n % 2 ^ 52)) (sign n) (y * 2 ^ shift (rest n)) (2 ^ 1074))
    (lead_is (rest n / 2 ^ 52) (n % 2 ^ 52) (rest n) (parts n)) (read (sign n) (rest n / 2 ^ 52) (n % 2 ^ 52) (under n h)))
  where
    parts : (n : ℕ) → n % 2 ^ 63 ≡ n % 2 ^ 63 / 2 ^ 52 * 2 ^ 52 + n % 2 ^ 52
    parts n = omega arith

    under : (n : ℕ) → n % 2 ^ 63 < 2047 * 2 ^ 52 → n % 2 ^ 63 / 2 ^ 52 < 2047
    under n h = omega arith

-- without a sign, and with one
pub above_zero : (n : ℕ) → n < 2047 * 2 ^ 52 → HasValue (of_bits binary64 n) false (grid n) (2 ^ 1074)
above_zero n h =
    subst (λ (s : Bool). HasValue (of_bits binary64 n) s (grid n) (2 ^ 1074))
    (is_false (sign n) (not_T (sign n) (λ t. no_sign n h (leb→le (2 ^ 63) n t))))
    (subst (λ (m : ℕ). HasValue (of_bits binary64 n) (sign n) (grid m) (2 ^ 1074)) (same n h) (has-grid n (still n h)))
  where
    no_sign : (n : ℕ) → n < 2047 * 2 ^ 52 → 2 ^ 63 ≤ n → ⊥
    no_sign n h k = omega arith

    same : (n : ℕ) → n < 2047 * 2 ^ 52 → n % 2 ^ 63 ≡ n
    same n h = omega arith

    still : (n : ℕ) → n < 2047 * 2 ^ 52 → n % 2 ^ 63 < 2047 * 2 ^ 52
    still n h = omega arith

pub below-zero : (r : ℕ) → r < 2047 * 2 ^ 52 → HasValue (of_bits binary64 (2 ^ 63 + r)) true (grid r) (2 ^ 1074)
below-zero r h =
    subst (λ (s : Bool). HasValue (of_bits binary64 (2 ^ 63 + r)) s (grid r) (2 ^ 1074))
    (is_true (sign (2 ^ 63 + r)) (le→leb (2 ^ 63) (2 ^ 63 + r) (more r)))
    (subst (λ (m : ℕ). HasValue (of_bits binary64 (2 ^ 63 + r)) (sign (2 ^ 63 + r)) (grid m) (2 ^ 1074)) (same r h)
    (has-grid (2 ^ 63 + r) (still r h)))
  where
    more : (r : ℕ) → 2 ^ 63 ≤ 2 ^ 63 + r
    more r = omega arith

    same : (r : ℕ) → r < 2047 * 2 ^ 52 → (2 ^ 63 + r) % 2 ^ 63 ≡ r
    same r h = omega arith

    still : (r : ℕ) → r < 2047 * 2 ^ 52 → (2 ^ 63 + r) % 2 ^ 63 < 2047 * 2 ^ 52
    still r h = omega arith

at_ones : (s : Bool) (x t : ℕ) → x ≡ 2047 → T (finite (of_fields binary64 s x t)) → ⊥
unfolding of_fields
at_ones s x t e h = go (eqb t 0) (subst (λ (y : ℕ). T (finite (of_fields binary64 s y t))) e h)
  where
    go : (b : Bool) → T (finite (cond b (inf s) nan)) → ⊥
    go true h = h
    go false h = h

pub finite-rest : (n : ℕ) → T (finite (of_bits binary64 n)) → rest n < 2047 * 2 ^ 52
finite-rest n h = elim (eq-or-lt_of_le (field n)) [
  | inl e ↦
      absurd (at_ones (sign n) (rest n / 2 ^ 52) (n % 2 ^ 52) e (subst (λ (y : Float). T (finite y)) (fields n) h))
  | inr k ↦ within n k
]
  where
    field : (n : ℕ) → n % 2 ^ 63 / 2 ^ 52 ≤ 2047
    field n = omega arith

    within : (n : ℕ) → n % 2 ^ 63 / 2 ^ 52 < 2047 → n % 2 ^ 63 < 2047 * 2 ^ 52
    within n k = omega arith

-- ---- the size grows
-- in one octave
same-octave : (m n : ℕ) → m ≤ n → shift m ≡ shift n → grid m ≤ grid n
same-octave m n h e =
    subst (λ (x : ℕ). grid m ≤ (n - x * 2 ^ 52) * 2 ^ x) e (mul-le-mul_right (2 ^ shift m) (both m n (shift m * 2 ^ 52) h))
  where
    both : (a b c : ℕ) → a ≤ b → a - c ≤ b - c
    both a b c h = omega arith

-- and from an octave to the next
below_next : (m : ℕ) → grid m ≤ 2 ^ suc (shift m) * 2 ^ 52
below_next m = le_trans (under m (2 ^ shift m)) (le_of_eq (ap (λ (z : ℕ). z * 2 ^ 52) (sym (pow-succ' 2 (shift m)))))
  where
    few : (m : ℕ) → m - (m / 2 ^ 52 - 1) * 2 ^ 52 ≤ 2 * 2 ^ 52
    few m = omega arith

    under : (m k : ℕ) → (m - (m / 2 ^ 52 - 1) * 2 ^ 52) * k ≤ 2 * k * 2 ^ 52
    under m k = le_trans (mul-le-mul_right k (few m)) (turn k)
      where
        turn : (k : ℕ) → 2 * 2 ^ 52 * k ≤ 2 * k * 2 ^ 52
        turn k = omega arith

next-octave : (m n : ℕ) → shift m < shift n → grid m ≤ grid n
next-octave m n h =
    le_trans (below_next m)
    (le_trans (mul-le-mul_right (2 ^ 52) (pow_mono h))
    (le_trans (le_of_eq (mul_comm (2 ^ shift n) (2 ^ 52))) (mul-le-mul_right (2 ^ shift n) (leads n (shift m) h))))
  where
    leads : (n x : ℕ) → x < n / 2 ^ 52 - 1 → 2 ^ 52 ≤ n - (n / 2 ^ 52 - 1) * 2 ^ 52
    leads n x h = omega arith

pub grid-grows : (m n : ℕ) → m ≤ n → grid m ≤ grid n
grid-grows m n h = elim (eq-or-lt_of_le (further m n h)) [
  | inl e ↦ same-octave m n h e
  | inr k ↦ next-octave m n k
]
  where
    further : (m n : ℕ) → m ≤ n → m / 2 ^ 52 - 1 ≤ n / 2 ^ 52 - 1
    further m n h = omega arith
