-- The digits of a number: one where it is below 10; otherwise the digits of a tenth of it, and then its last. Assumes
-- nothing.
use Prim.Native.Nat.{ℕ, zero, suc, ◌+◌, ◌*◌, ◌/◌, ◌%◌, ◌^◌, ◌≤◌, ◌<◌}
use mathlib.Core.Path.{◌≡◌, refl, ap, ◌∙◌}
use mathlib.Core.Bool.{cond}
use mathlib.Core.List.{List, [], ◌∷◌, ◌++◌}
use mathlib.Core.Logic.{⊎_elim}
use native.Mathlib.Omega.{arith}
use lib.Dec.{ltb}
use lib.ListN.{length, length-append}
use borrow.Author.Tests.{lt-ltb, le-ltb}
use Rattle.listing.specs.Decimal.{digit_of, digits_of, decimal_of}
use Rattle.histogram.proofs.Tests.{below_or}

-- ---- any allowance of digits that is enough gives the same
enough : (j k n : ℕ) → n ≤ j → n ≤ k → digits_of j n ≡ digits_of k n
unfolding digits_of
enough zero zero n h l = refl
enough zero (suc k) n h l = let s : n < 10 = omega arith in rw (lt-ltb n 10 s)
enough (suc j) zero n h l = let s : n < 10 = omega arith in rw (lt-ltb n 10 s)
enough (suc j) (suc k) n h l = ap (λ (high : List ℕ). cond (ltb n 10) (digit_of n ∷ []) (high ++ (digit_of (n % 10) ∷ []))) (enough j k (n / 10) (omega arith) (omega arith))

pub digits-one : (n : ℕ) → n < 10 → decimal_of n ≡ digit_of n ∷ []
unfolding decimal_of digits_of
digits-one zero h = refl
digits-one (suc m) h = rw (lt-ltb (suc m) 10 h)

pub digits_more : (n : ℕ) → 10 ≤ n → decimal_of n ≡ decimal_of (n / 10) ++ (digit_of (n % 10) ∷ [])
unfolding decimal_of digits_of
digits_more zero h = absurd (omega arith)
digits_more (suc m) h = rw (le-ltb (suc m) 10 h) (ap (λ (high : List ℕ). high ++ (digit_of (suc m % 10) ∷ [])) (enough m (suc m / 10) (suc m / 10) (omega arith) (omega arith)))

-- ---- what holds of one digit, and of a number where it holds of a tenth of it, holds of every number
module _ (P : ℕ → Type 0) (one : (n : ℕ) → n < 10 → P n) (more : (n : ℕ) → 10 ≤ n → P (n / 10) → P n) where
  within : (k n : ℕ) → n ≤ k → P n
  within zero n h = one n (omega arith)
  within (suc k) n h = ⊎_elim (one n) (λ (g : 10 ≤ n). more n g (within k (n / 10) (omega arith))) (below_or n 10)

  pub by_digits : (n : ℕ) → P n
  by_digits n = within n n (omega arith)

-- ---- how many there are
pub longer : (n : ℕ) → 10 ≤ n → length (decimal_of n) ≡ length (decimal_of (n / 10)) + 1
longer n h = ap length (digits_more n h) ∙ length-append (decimal_of (n / 10)) (digit_of (n % 10) ∷ [])

pub digits-some : (n : ℕ) → 1 ≤ length (decimal_of n)
digits-some = by_digits (λ (n : ℕ). 1 ≤ length (decimal_of n)) (λ (n : ℕ) (h : n < 10). rw (digits-one n h) (omega arith)) (λ (n : ℕ) (h : 10 ≤ n) (_ : 1 ≤ length (decimal_of (n / 10))). let l = longer n h in omega arith)

power-suc : (k : ℕ) → 10 ^ suc k ≡ 10 * 10 ^ k
power-suc k = omega arith

pub digits-few : (k n : ℕ) → n < 10 ^ suc k → length (decimal_of n) ≤ suc k
digits-few zero n h = let e = digits-one n (small h) in rw e (omega arith)
  where
    small : n < 10 ^ 1 → n < 10
    small l = omega arith
digits-few (suc k) n h = ⊎_elim (λ (l : n < 10). let e = digits-one n l in rw e (omega arith)) (λ (g : 10 ≤ n). let f = digits-few k (n / 10) (shrinks g) in let l = longer n g in omega arith) (below_or n 10)
  where
    shrinks : 10 ≤ n → n / 10 < 10 ^ suc k
    shrinks g = let w = power-suc (suc k) in omega arith

-- a number of 64 bits
pub twenty : (n : ℕ) → n < 2 ^ 64 → length (decimal_of n) ≤ 20
twenty n h = digits-few 19 n (omega arith)
