-- The five ranges that `round` and `floor` tell apart by comparing x with 0, 2 ^ 52 and -2 ^ 52, and what each test
-- says there.
-- Assumes nothing.
use Rattle.std.proofs.Common.{◌≡◌, ℕ, ◌+◌, ◌*◌, ◌/◌, ◌^◌, ◌<◌, ◌≤◌, Bool, true, false, T, ℤ, pos, refl, subst}
use Rattle.std.proofs.Common.{mul-div_cancel, arith, lt→ltb, ltb-false, ltb-true}
use mathlib.Core.Bool.{false≢true}
use lib.Ieee.{Float, nan, inf, fin, binary64, up, down, of_bits, neg, lt, round, fits}
use lib.Ieee.Positive.{num, den, positive, first_pos}
use Rattle.routines.specs.Whole.{round_of, floor_of, half_up, ceiling}
use Rattle.routines.proofs.Tests.{yes}
use Rattle.routines.proofs.Sizes.{half-up-whole, ceiling-whole, zero-stays, large-stays, neg-round}

-- the constants, as MIR has them
abbrev pub nil : Float
nil = of_bits binary64 0

abbrev pub top : Float
top = of_bits binary64 0x4330_0000_0000_0000

no_less : (a d : ℕ) → a * 1 < 0 * d → ⊥
no_less a d h = omega arith

-- ---- 0 < x < 2 ^ 52
abbrev pub Small : Float → Type 0
Small x = T (positive x) × T (lt x (fin false 1 (pos 52)))

pub small : (x : Float) → lt nil x ≡ true → lt x top ≡ true → Small x
unfolding lt of_bits
small nan a b = absurd (false≢true a)
small (inf true) a b = absurd (false≢true a)
small (inf false) a b = absurd (false≢true b)
small (fin true m e) a b = absurd (false≢true a)
small (fin false m e) a b =
    (lt→ltb 0 m (first_pos m (up e) (some (m * up e) (down e) (ltb-true (0 * down e) (m * up e * 1) a))), yes b)
  where
    some : (n d : ℕ) → 0 * d < n * 1 → 0 < n
    some n d h = omega arith

pub round-small-is : (x : Float) → T (positive x) → round binary64 false (half_up (num x) (den x)) 1 ≡ round_of x
unfolding round_of
round-small-is nan p = absurd p
round-small-is (inf s) p = absurd p
round-small-is (fin true m e) p = absurd p
round-small-is (fin false m e) p = refl

pub floor-small-is : (x : Float) → T (positive x) → round binary64 false (num x / den x) 1 ≡ floor_of x
unfolding floor_of
floor-small-is nan p = absurd p
floor-small-is (inf s) p = absurd p
floor-small-is (fin true m e) p = absurd p
floor-small-is (fin false m e) p = refl

-- ---- -2 ^ 52 < x < 0
pub small-neg : (x : Float) → lt x nil ≡ true → lt (neg top) x ≡ true → Small (neg x)
unfolding lt of_bits neg
small-neg nan a b = absurd (false≢true a)
small-neg (inf true) a b = absurd (false≢true b)
small-neg (inf false) a b = absurd (false≢true a)
small-neg (fin false m e) a b = absurd (no_less (m * up e) (down e) (ltb-true (m * up e * 1) (0 * down e) a))
small-neg (fin true m e) a b =
    (lt→ltb 0 m (first_pos m (up e) (some (m * up e) (down e) (ltb-true 0 (m * up e * 1 + 0 * down e) a))), yes b)
  where
    some : (n d : ℕ) → 0 < n * 1 + 0 * d → 0 < n
    some n d h = omega arith

pub round-neg-is : (x : Float) → T (positive (neg x))
    → neg (round binary64 false (half_up (num (neg x)) (den (neg x))) 1) ≡ round_of x
unfolding round_of neg
round-neg-is nan p = absurd p
round-neg-is (inf s) p = absurd p
round-neg-is (fin false m e) p = absurd p
round-neg-is (fin true m e) p = neg-round binary64 (half_up (m * up e) (down e)) 1

pub floor-neg-is : (x : Float) → T (positive (neg x))
    → neg (round binary64 false (ceiling (num (neg x)) (den (neg x))) 1) ≡ floor_of x
unfolding floor_of neg
floor-neg-is nan p = absurd p
floor-neg-is (inf s) p = absurd p
floor-neg-is (fin false m e) p = absurd p
floor-neg-is (fin true m e) p = neg-round binary64 (ceiling (m * up e) (down e)) 1

-- ---- from 2 ^ 52 on, up to -2 ^ 52, at a zero, at a NaN: x itself. `Kept x` is what the tests leave of these
pub data Kept : Float → Type 0 where
  not-a-number : Kept nan
  infinite : (s : Bool) → Kept (inf s)
  nothing : (s : Bool) (m : ℕ) (e : ℤ) → m * up e ≡ 0 → Kept (fin s m e)
  wide : (s : Bool) (m : ℕ) (e : ℤ) → 2 ^ 52 * down e ≤ m * up e → Kept (fin s m e)

tidy : (n p d : ℕ) → p * d ≤ n * 1 → p * d ≤ n
tidy n p d h = subst (λ (z : ℕ). p * d ≤ z) (one n) h
  where
    one : (n : ℕ) → n * 1 ≡ n
    one n = omega arith

pub wide_up : (x : Float) → lt nil x ≡ true → lt x top ≡ false → Kept x
unfolding lt of_bits
wide_up nan a b = not-a-number
wide_up (inf s) a b = infinite s
wide_up (fin true m e) a b = absurd (false≢true a)
wide_up (fin false m e) a b =
    wide false m e (tidy (m * up e) (2 ^ 52) (down e) (ltb-false (m * up e * 1) (2 ^ 52 * down e) b))

pub wide-down : (x : Float) → lt x nil ≡ true → lt (neg top) x ≡ false → Kept x
unfolding lt of_bits neg
wide-down nan a b = not-a-number
wide-down (inf s) a b = infinite s
wide-down (fin false m e) a b = absurd (no_less (m * up e) (down e) (ltb-true (m * up e * 1) (0 * down e) a))
wide-down (fin true m e) a b =
    wide true m e (tidy (m * up e) (2 ^ 52) (down e) (ltb-false (m * up e * 1) (2 ^ 52 * down e) b))

pub level : (x : Float) → lt nil x ≡ false → lt x nil ≡ false → Kept x
unfolding lt of_bits
level nan a b = not-a-number
level (inf s) a b = infinite s
level (fin false m e) a b = nothing false m e (none (m * up e) (down e) (ltb-false (0 * down e) (m * up e * 1) a))
  where
    none : (n d : ℕ) → n * 1 ≤ 0 * d → n ≡ 0
    none n d h = omega arith
level (fin true m e) a b = nothing true m e (none (m * up e) (down e) (ltb-false 0 (m * up e * 1 + 0 * down e) b))
  where
    none : (n d : ℕ) → n * 1 + 0 * d ≤ 0 → n ≡ 0
    none n d h = omega arith

pub round_keeps : {x : Float} → T (fits binary64 x) → Kept x → x ≡ round_of x
unfolding round_of
round_keeps F not-a-number = refl
round_keeps F (infinite s) = refl
round_keeps F (nothing s m e h) = zero-stays half_up half-up-whole s m e F h
round_keeps F (wide s m e h) = large-stays half_up half-up-whole s m e F h

cut : (c d : ℕ) → 0 < d → c * d / d ≡ c
cut c d D = mul-div_cancel c D

pub floor-keeps : {x : Float} → T (fits binary64 x) → Kept x → x ≡ floor_of x
unfolding floor_of
floor-keeps F not-a-number = refl
floor-keeps F (infinite s) = refl
floor-keeps F (nothing false m e h) = zero-stays (λ a d. a / d) cut false m e F h
floor-keeps F (nothing true m e h) = zero-stays ceiling ceiling-whole true m e F h
floor-keeps F (wide false m e h) = large-stays (λ a d. a / d) cut false m e F h
floor-keeps F (wide true m e h) = large-stays ceiling ceiling-whole true m e F h
