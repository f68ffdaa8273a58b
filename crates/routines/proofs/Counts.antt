-- Whole numbers up to 2 ^ 53 as `f64`: sums, differences, quotients, rounding, the way back and a comparison are those
-- of the numbers. Assumes nothing.
use Rattle.std.proofs.Common.{◌≡◌, ℕ, ◌+◌, ◌*◌, ◌^◌, ◌<◌, ◌≤◌, Bool, true, false, ◌&&◌, eqb, ℤ, sym, refl, ap, ◌∙◌}
use Rattle.std.proofs.Common.{true≢false, zero-lt-suc, add_comm, mul-pos, mul-one, arith, le→leb, le-ltb, eq-eqb}
use Rattle.std.proofs.Common.{ne_eqb, eqb-true}
use native.Mathlib.Nat.{eq_of_mul-eq-mul_right}
use borrow.Author.Tests.{eqb-false}
use lib.Ieee.{Float, nan, inf, fin, Format, binary64, up, down, round, sum, add, sub, neg, div, eq}
use lib.Ieee.{of_bits, of_int, to_unsigned, in_float}
use lib.Ieee.Back.{round_whole, unsigned_back}
use lib.Ieee.Exact.{HasValue}
use lib.Ieee.Fits.{down_pos}
use lib.Ieee.Scale.{round_same}
use Rattle.routines.specs.Constants.{one}
use Rattle.routines.specs.Ops.{◌⊕◌, ◌⊖◌, ◌⊘◌, of_count}
use Rattle.routines.specs.Whole.{half_up, round_of}
use Rattle.routines.proofs.Sizes.{half-up-whole}

-- x is the whole number a
abbrev pub Is : Float → ℕ → Type 0
Is x a = HasValue x false a 1

pub count-is : (n : ℕ) → n ≤ 2 ^ 53 → Is (of_count n) n
unfolding of_int
count-is n h = round_whole binary64 false n h

one-is : Is one 1
unfolding of_bits
one-is = (refl, refl)

-- ---- the operations on whole numbers, before rounding
module _ (f : Format) where
  opened : (s t : Bool) (m k : ℕ) (e d : ℤ)
      → add f (fin s m e) (fin t k d) ≡ sum f s (m * up e * down d) t (k * up d * down e) (down e * down d)
  unfolding add
  opened s t m k e d = refl

  alike : (a b c : ℕ) → sum f false a false b c ≡ round f false (a + b) c
  unfolding sum
  alike a b c = refl

  less : (a b n c : ℕ) → b + n ≡ a → sum f false a true b c ≡ round f false n c
  unfolding sum
  less a b n c h = rw (le-ltb a b (omega arith)) (ap (λ (k : ℕ). round f false k c) (omega arith))

  turned : (x : Float) (k : ℕ) (d : ℤ) → sub f x (fin false k d) ≡ add f x (fin true k d)
  unfolding sub neg
  turned x k d = refl

  opened-quotient : (m k : ℕ) (e d : ℤ) → eqb k 0 ≡ false
      → div f (fin false m e) (fin false k d) ≡ round f false (m * up e * down d) (k * up d * down e)
  unfolding div
  opened-quotient m k e d h = rw h

  sum_is : (x y : Float) (a b : ℕ) → Is x a → Is y b → add f x y ≡ round f false (a + b) 1
  sum_is nan y a b v w = absurd v
  sum_is (inf s) y a b v w = absurd v
  sum_is (fin s m e) nan a b v w = absurd w
  sum_is (fin s m e) (inf t) a b v w = absurd w
  sum_is (fin true m e) (fin t k d) a b v w = absurd (true≢false v.0)
  sum_is (fin false m e) (fin true k d) a b v w = absurd (true≢false w.0)
  sum_is (fin false m e) (fin false k d) a b v w =
      opened false false m k e d
      ∙ alike (m * up e * down d) (k * up d * down e) (down e * down d)
      ∙ round_same f false _ (down e * down d) (a + b) 1 (mul-pos (down_pos e) (down_pos d)) (zero-lt-suc 0)
      (cross (m * up e) (down e) (k * up d) (down d) a b v.1 w.1)
    where
      cross : (x p y q a b : ℕ) → x * 1 ≡ a * p → y * 1 ≡ b * q → (x * q + y * p) * 1 ≡ (a + b) * (p * q)
      cross x p y q a b h k =
          let l : x * 1 * q ≡ a * p * q = ap (λ (z : ℕ). z * q) h in
          let r : y * 1 * p ≡ b * q * p = ap (λ (z : ℕ). z * p) k in
          omega arith

  difference-is : (x y : Float) (a b : ℕ) → Is x (b + a) → Is y b → sub f x y ≡ round f false a 1
  difference-is nan y a b v w = absurd v
  difference-is (inf s) y a b v w = absurd v
  difference-is (fin s m e) nan a b v w = absurd w
  difference-is (fin s m e) (inf t) a b v w = absurd w
  difference-is (fin true m e) (fin t k d) a b v w = absurd (true≢false v.0)
  difference-is (fin false m e) (fin true k d) a b v w = absurd (true≢false w.0)
  difference-is (fin false m e) (fin false k d) a b v w =
      turned (fin false m e) k d
      ∙ opened false true m k e d
      ∙ less (m * up e * down d) (k * up d * down e) (a * (down e * down d)) (down e * down d)
      (cross (m * up e) (down e) (k * up d) (down d) a b v.1 w.1)
      ∙ round_same f false (a * (down e * down d)) (down e * down d) a 1 (mul-pos (down_pos e) (down_pos d))
      (zero-lt-suc 0) (mul-one (a * (down e * down d)))
    where
      cross : (x p y q a b : ℕ) → x * 1 ≡ (b + a) * p → y * 1 ≡ b * q → y * p + a * (p * q) ≡ x * q
      cross x p y q a b h k =
          let l : x * 1 * q ≡ (b + a) * p * q = ap (λ (z : ℕ). z * q) h in
          let r : y * 1 * p ≡ b * q * p = ap (λ (z : ℕ). z * p) k in
          omega arith

  quotient_is : (x y : Float) (a b : ℕ) → 0 < b → Is x a → Is y b → div f x y ≡ round f false a b
  quotient_is nan y a b h v w = absurd v
  quotient_is (inf s) y a b h v w = absurd v
  quotient_is (fin s m e) nan a b h v w = absurd w
  quotient_is (fin s m e) (inf t) a b h v w = absurd w
  quotient_is (fin true m e) (fin t k d) a b h v w = absurd (true≢false v.0)
  quotient_is (fin false m e) (fin true k d) a b h v w = absurd (true≢false w.0)
  quotient_is (fin false m e) (fin false k d) a b h v w =
      let some : 0 < k * up d = above (k * up d) (b * down d) w.1 (mul-pos h (down_pos d)) in
      opened-quotient m k e d (ne_eqb k 0 (never k (up d) some))
      ∙ round_same f false _ (k * up d * down e) a b (mul-pos some (down_pos e)) h
      (cross (m * up e) (down e) (k * up d) (down d) a b v.1 w.1)
    where
      above : (y z : ℕ) → y * 1 ≡ z → 0 < z → 0 < y
      above y z h p = omega arith

      never : (k u : ℕ) → 0 < k * u → k ≡ 0 → ⊥
      never k u h z =
          let none : k * u ≡ 0 * u = ap (λ (n : ℕ). n * u) z in
          omega arith

      cross : (x p y q a b : ℕ) → x * 1 ≡ a * p → y * 1 ≡ b * q → x * q * b ≡ a * (y * p)
      cross x p y q a b h k =
          let l : x * 1 * (q * b) ≡ a * p * (q * b) = ap (λ (z : ℕ). z * (q * b)) h in
          let r : y * 1 * (a * p) ≡ b * q * (a * p) = ap (λ (z : ℕ). z * (a * p)) k in
          omega arith

-- ---- a comparison of whole numbers
opened-level : (m k : ℕ) (e d : ℤ) → eq (fin false m e) (fin false k d) ≡ eqb (m * up e * down d) (k * up d * down e)
unfolding eq
opened-level m k e d = settled (eqb (m * up e * down d) (k * up d * down e))
  where
    settled : (b : Bool) → (b && true) ≡ b
    settled true = refl
    settled false = refl

level-is : (x y : Float) (a b : ℕ) → Is x a → Is y b → eq x y ≡ eqb a b
level-is nan y a b v w = absurd v
level-is (inf s) y a b v w = absurd v
level-is (fin s m e) nan a b v w = absurd w
level-is (fin s m e) (inf t) a b v w = absurd w
level-is (fin true m e) (fin t k d) a b v w = absurd (true≢false v.0)
level-is (fin false m e) (fin true k d) a b v w = absurd (true≢false w.0)
level-is (fin false m e) (fin false k d) a b v w =
    opened-level m k e d ∙ whichever (eqb a b) refl
  where
    -- both are the numbers over one denominator
    scaled : (x p q a : ℕ) → x * 1 ≡ a * p → x * q ≡ a * (p * q)
    scaled x p q a h =
        let l : x * 1 * q ≡ a * p * q = ap (λ (z : ℕ). z * q) h in
        omega arith

    turned_round : (y p q b : ℕ) → y * 1 ≡ b * q → y * p ≡ b * (p * q)
    turned_round y p q b h =
        let l : y * 1 * p ≡ b * q * p = ap (λ (z : ℕ). z * p) h in
        omega arith

    left : m * up e * down d ≡ a * (down e * down d)
    left = scaled (m * up e) (down e) (down d) a v.1

    right : k * up d * down e ≡ b * (down e * down d)
    right = turned_round (k * up d) (down e) (down d) b w.1

    whichever : (c : Bool) → eqb a b ≡ c → eqb (m * up e * down d) (k * up d * down e) ≡ c
    whichever true h = eq-eqb _ _ (left ∙ ap (λ (n : ℕ). n * (down e * down d)) (eqb-true a b h) ∙ sym right)
    whichever false h =
        ne_eqb _ _ (λ (z : m * up e * down d ≡ k * up d * down e).
        eqb-false a b h
        (eq_of_mul-eq-mul_right (down e * down d) (mul-pos (down_pos e) (down_pos d)) a b (sym left ∙ z ∙ right)))

-- what equals 1 is 1
one_found : (x : Float) → eq x one ≡ true → Is x 1
unfolding eq of_bits
one_found nan h = absurd (true≢false (sym h))
one_found (inf s) h = absurd (true≢false (sym h))
one_found (fin true m e) h =
    absurd
    (never (m * up e) (down e) (eqb (m * up e * 1) (1 * down e)) (eqb (m * up e * 1) 0) h (eqb-true _ _) (eqb-true _ _)
    (down_pos e))
  where
    never : (x p : ℕ) (a b : Bool) → (a && b) ≡ true → (a ≡ true → x * 1 ≡ 1 * p) → (b ≡ true → x * 1 ≡ 0) → 0 < p → ⊥
    never x p true true h k l q =
        let u = k refl in
        let z = l refl in
        omega arith
    never x p true false h k l q = true≢false (sym h)
    never x p false b h k l q = true≢false (sym h)
one_found (fin false m e) h = (refl, first (eqb (m * up e * 1) (1 * down e)) h (eqb-true _ _))
  where
    first : (a : Bool) → (a && true) ≡ true → (a ≡ true → m * up e * 1 ≡ 1 * down e) → m * up e * 1 ≡ 1 * down e
    first true h k = k refl
    first false h k = absurd (true≢false (sym h))

-- a whole number rounds to itself
whole-stays : (x : Float) (n : ℕ) → Is x n → round_of x ≡ round binary64 false n 1
unfolding round_of
whole-stays nan n v = absurd v
whole-stays (inf s) n v = absurd v
whole-stays (fin true m e) n v = absurd (true≢false v.0)
whole-stays (fin false m e) n v =
    ap (λ (k : ℕ). round binary64 false k 1)
    (ap (λ (k : ℕ). half_up k (down e)) (sym (mul-one (m * up e)) ∙ v.1) ∙ half-up-whole n (down e) (down_pos e))

-- ---- THE STATEMENTS
pub count-more : (n : ℕ) → n ≤ 2 ^ 53 → of_count n ⊕ one ≡ of_count (n + 1)
unfolding of_int
count-more n h = sum_is binary64 (of_count n) one n 1 (count-is n h) one-is

pub count_less : (n : ℕ) → n + 1 ≤ 2 ^ 53 → of_count (n + 1) ⊖ one ≡ of_count n
unfolding of_int
count_less n h = difference-is binary64 (of_count (n + 1)) one n 1 (rw (add_comm 1 n) (count-is (n + 1) h)) one-is

pub count-equals-one : (n : ℕ) → n ≤ 2 ^ 53 → eq (of_count n) one ≡ eqb n 1
count-equals-one n h = level-is (of_count n) one n 1 (count-is n h) one-is

pub count-back : (w n : ℕ) → n ≤ 2 ^ 53 → n < 2 ^ w → to_unsigned w (of_count n) ≡ n
unfolding in_float
count-back w n h k = (unsigned_back binary64 w n (le→leb n (2 ^ 53) h) k).1

-- a count over 1, rounded, is the count
pub count-over-one : (d : Float) (n : ℕ) → eq d one ≡ true → n ≤ 2 ^ 53 → round_of (of_count n ⊘ d) ≡ of_count n
unfolding of_int
count-over-one d n e h =
    ap round_of (quotient_is binary64 (of_count n) d n 1 (zero-lt-suc 0) (count-is n h) (one_found d e))
    ∙ whole-stays (of_count n) n (count-is n h)

-- a quotient of counts is rounded once
pub count-over : (n d : ℕ) → n ≤ 2 ^ 53 → 0 < d → d ≤ 2 ^ 53 → of_count n ⊘ of_count d ≡ round binary64 false n d
count-over n d h p k = quotient_is binary64 (of_count n) (of_count d) n d p (count-is n h) (count-is d k)
