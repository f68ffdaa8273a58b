-- The kit's digits of a number: in decimal those of the listing, in hexadecimal sixteen of 64 bits. Assumes nothing.
use Prim.Native.Nat.{ℕ, zero, suc, ◌-◌, ◌*◌, ◌/◌, ◌%◌, ◌^◌, ◌≤◌, ◌<◌}
use mathlib.Core.Path.{◌≡◌, sym, ap, ◌∙◌, subst}
use mathlib.Core.List.{List, [], ◌∷◌, ◌++◌}
use mathlib.Core.Logic.{⊎_elim}
use native.Mathlib.Nat.{le_trans, pow-le-pow_right}
use native.Mathlib.Omega.{arith}
use borrow.Author.Tests.{lt-ltb}
use Rattle.histogram.proofs.Tests.{below_or}
use Rattle.io.specs.Digits.{last_digits, hex_digit_ascii, IsDigitCount}
use Rattle.listing.specs.Decimal.{digit_of, decimal_of}
use Rattle.listing.proofs.Decimals.{digits-one, digits_more}

last : (n : ℕ) → hex_digit_ascii (n % 10) ≡ digit_of (n % 10)
last n = let h : n % 10 < 10 = omega arith in rw (lt-ltb (n % 10) 10 h)

small : (n : ℕ) → n < 10 → n % 10 ≡ n
small n h = omega arith

power-suc : (k : ℕ) → 10 ^ suc k ≡ 10 * 10 ^ k
power-suc k = omega arith

-- as many digits as the number has
pub spelled : (k n : ℕ) → IsDigitCount 10 1 n k → last_digits 10 k n ≡ decimal_of n
spelled zero n f = absurd (omega (arith, f.0))
spelled (suc zero) n f =
    let h : n < 10 = omega (arith, f.1) in
    ap (λ (d : ℕ). d ∷ []) (last n ∙ ap digit_of (small n h)) ∙ sym (digits-one n h)
spelled (suc (suc j)) n f =
    let p = power-suc j in
    let q = power-suc (suc j) in
    let many : 10 ^ suc j ≤ n = subst (λ (e : ℕ). 10 ^ e ≤ n) (less j) (f.2 (omega arith)) in
    let h : 10 ≤ n = le_trans (tens j) many in
    let few : IsDigitCount 10 1 (n / 10) (suc j) = (omega arith, omega (arith, f.1), λ (l : 1 < suc j). rw (off j) (omega arith)) in
    ap (λ (high : List ℕ). high ++ (hex_digit_ascii (n % 10) ∷ [])) (spelled (suc j) (n / 10) few)
    ∙ ap (λ (d : ℕ). decimal_of (n / 10) ++ (d ∷ [])) (last n)
    ∙ sym (digits_more n h)
  where
    off : (i : ℕ) → suc i - 1 ≡ i
    off i = omega arith

    less : (i : ℕ) → suc (suc i) - 1 ≡ suc i
    less i = omega arith

    tens : (i : ℕ) → 10 ≤ 10 ^ suc i
    tens zero = omega arith
    tens (suc i) = let t = tens i in let p = power-suc (suc i) in omega arith

-- 64 bits have sixteen
pub sixteen : (k n : ℕ) → n < 2 ^ 64 → IsDigitCount 16 16 n k → k ≡ 16
sixteen k n h f = ⊎_elim (λ (l : k < 17). omega (arith, f.0)) (λ (l : 17 ≤ k). absurd (more l)) (below_or k 17)
  where
    more : 17 ≤ k → ⊥
    more l =
        let m : 16 ^ 16 ≤ 16 ^ (k - 1) = pow-le-pow_right {n = 16} (omega arith) {i = 16} {j = k - 1} (omega arith) in
        let r : 16 ^ (k - 1) ≤ n = f.2 (omega arith) in
        omega arith
