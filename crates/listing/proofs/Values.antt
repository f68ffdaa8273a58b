-- The digits of a number are digits, lead with no zero but that of 0 itself, and stand for the number. Assumes nothing.
use Prim.Native.Nat.{ℕ, ◌+◌, ◌*◌, ◌-◌, ◌/◌, ◌%◌, ◌≤◌, ◌<◌}
use mathlib.Core.Path.{◌≡◌, refl}
use mathlib.Core.List.{List, [], ◌∷◌, ◌++◌}
use native.Mathlib.Omega.{arith}
use lib.ListN.{get_or, get_or-append}
use Rattle.listing.specs.Decimal.{digit_of, decimal_of, value_of, Digits}
use Rattle.listing.proofs.Decimals.{digits-one, digits_more, digits-some, by_digits}

-- ---- reading a number's digits gives the number back
value-more : (v : ℕ) (ds : List ℕ) (d : ℕ) → value_of v (ds ++ (d ∷ [])) ≡ value_of v ds * 10 + (d - 48)
value-more v [] d = refl
value-more v (x ∷ ds) d = value-more (v * 10 + (x - 48)) ds d

pub value-back : (n : ℕ) → value_of 0 (decimal_of n) ≡ n
value-back = by_digits (λ (n : ℕ). value_of 0 (decimal_of n) ≡ n) one more
  where
    one : (n : ℕ) → n < 10 → value_of 0 (decimal_of n) ≡ n
    one n h = rw (digits-one n h) (omega arith)

    more : (n : ℕ) → 10 ≤ n → value_of 0 (decimal_of (n / 10)) ≡ n / 10 → value_of 0 (decimal_of n) ≡ n
    more n h e = rw (digits_more n h, value-more 0 (decimal_of (n / 10)) (digit_of (n % 10)), e) (omega arith)

-- ---- and they are digits
digits-then : (ds : List ℕ) (d : ℕ) → Digits ds → d < 10 → Digits (ds ++ (digit_of d ∷ []))
digits-then [] d a h = (omega arith, omega arith, tt)
digits-then (x ∷ ds) d a h = (a.0, a.1, digits-then ds d a.2 h)

pub are-digits : (n : ℕ) → Digits (decimal_of n)
are-digits = by_digits (λ (n : ℕ). Digits (decimal_of n)) one more
  where
    one : (n : ℕ) → n < 10 → Digits (decimal_of n)
    one n h = rw (digits-one n h) (digits-then [] n tt h)

    more : (n : ℕ) → 10 ≤ n → Digits (decimal_of (n / 10)) → Digits (decimal_of n)
    more n h a = rw (digits_more n h) (digits-then (decimal_of (n / 10)) (n % 10) a (omega arith))

-- ---- no zero leads, but that of 0 itself
pub no-zero-leads : (n : ℕ) → 1 ≤ n → 49 ≤ get_or (decimal_of n) 0 0
no-zero-leads = by_digits (λ (n : ℕ). 1 ≤ n → 49 ≤ get_or (decimal_of n) 0 0) one more
  where
    one : (n : ℕ) → n < 10 → 1 ≤ n → 49 ≤ get_or (decimal_of n) 0 0
    one n h l = rw (digits-one n h) (omega arith)

    more : (n : ℕ) → 10 ≤ n → (1 ≤ n / 10 → 49 ≤ get_or (decimal_of (n / 10)) 0 0) → 1 ≤ n → 49 ≤ get_or (decimal_of n) 0 0
    more n h f l = let g = f (omega arith) in rw (digits_more n h, get_or-append (decimal_of (n / 10)) (digit_of (n % 10) ∷ []) 0 0 (digits-some (n / 10))) g
