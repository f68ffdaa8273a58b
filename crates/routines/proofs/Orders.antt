-- What one comparison says of another, against zero and one, on every value. Assumes nothing.
use Rattle.std.proofs.Common.{◌≡◌, ℕ, ◌+◌, ◌*◌, ◌<◌, ◌≤◌, Bool, true, false, cond, not, ◌&&◌, ◌||◌, T, eqb, ltb, ◌⊎◌}
use Rattle.std.proofs.Common.{ℤ, pos, sym, refl, ap, ◌∙◌, subst, inl, inr, ⊎_elim, true≢false, le_of_eq, le_of_lt}
use Rattle.std.proofs.Common.{le_antisymm, zero-mul, arith, eqb→eq, ltb-false, ltb-true, le-ltb, lt-ltb}
use mathlib.Core.Bool.{beq, false≢true}
use lib.Ieee.{Float, nan, inf, fin, binary64, up, down, of_bits, lt, le, eq, is_nan, fits}
use lib.Ieee.Back.{whole_unique}
use lib.Ieee.Bits.{is_true}
use lib.Ieee.Fits.{eq→eqb, down_pos, and_l, and_r}
use Rattle.routines.specs.Constants.{one, zero as nought}
use Rattle.routines.specs.Held.{at_least, at_most}
use Rattle.routines.specs.Signs.{sign_clear}
use Rattle.routines.proofs.Tests.{yes}

-- ---- tests
or-first : (a b : Bool) → a ≡ true → (a || b) ≡ true
or-first true b h = refl
or-first false b h = absurd (false≢true h)

pub or_split : (a b : Bool) → (a || b) ≡ true → (a ≡ true) ⊎ (b ≡ true)
or_split true b h = inl refl
or_split false b h = inr h

pub less-le : (x y : Float) → lt x y ≡ true → le x y ≡ true
unfolding le
less-le x y h = or-first (lt x y) (eq x y) h

pub le_split : (x y : Float) → le x y ≡ true → (lt x y ≡ true) ⊎ (eq x y ≡ true)
unfolding le
le_split x y h = or_split (lt x y) (eq x y) h

-- ---- what is above a number that is not negative
pub above-clear : (a : ℕ) (d : ℤ) (v : Float) → lt (fin false a d) v ≡ true → sign_clear v ≡ true
unfolding lt
above-clear a d nan h = refl
above-clear a d (inf true) h = absurd (false≢true h)
above-clear a d (inf false) h = refl
above-clear a d (fin true m e) h = absurd (false≢true h)
above-clear a d (fin false m e) h = refl

-- what is less or more than something is no NaN
pub less-number : (v b : Float) → lt v b ≡ true → T (not (is_nan v))
unfolding lt is_nan
less-number nan b h = absurd (false≢true h)
less-number (inf s) b h = tt
less-number (fin s m e) b h = tt

pub more-number : (b v : Float) → lt b v ≡ true → T (not (is_nan v))
unfolding lt is_nan
more-number nan v h = absurd (false≢true h)
more-number (inf s) nan h = absurd (false≢true h)
more-number (inf s) (inf t) h = tt
more-number (inf s) (fin t m e) h = tt
more-number (fin s n d) nan h = absurd (false≢true h)
more-number (fin s n d) (inf t) h = tt
more-number (fin s n d) (fin t m e) h = tt

-- ---- a property of a value held to one side of a bound
pub at-least-has : (P : Float → Type 0) (v b : Float) → (lt b v ≡ true → P v) → P b → P (at_least v b)
unfolding at_least
at-least-has P v b f g = go (lt b v) refl
  where
    go : (t : Bool) → lt b v ≡ t → P (cond t v b)
    go true e = f e
    go false e = g

pub at-most-has : (P : Float → Type 0) (v b : Float) → (lt v b ≡ true → P v) → P b → P (at_most v b)
unfolding at_most
at-most-has P v b f g = go (lt v b) refl
  where
    go : (t : Bool) → lt v b ≡ t → P (cond t v b)
    go true e = f e
    go false e = g

pub at-most-le : (v b : Float) → le b b ≡ true → le (at_most v b) b ≡ true
at-most-le v b h = at-most-has (λ (r : Float). le r b ≡ true) v b (less-le v b) h

pub at-least-ge : (v b : Float) → le b b ≡ true → le b (at_least v b) ≡ true
at-least-ge v b h = at-least-has (λ (r : Float). le b r ≡ true) v b (less-le b v) h

-- ---- against zero
no_less : (n d : ℕ) → 0 * d ≤ n
no_less n d = omega arith

-- what is at least zero is not below it
pub not-below : (x : Float) → le nought x ≡ true → lt x nought ≡ false
unfolding lt le eq of_bits
not-below nan h = refl
not-below (inf true) h = absurd (false≢true h)
not-below (inf false) h = refl
not-below (fin false m e) h = le-ltb (m * up e * 1) (0 * down e) (no_less (m * up e * 1) (down e))
not-below (fin true m e) h =
    le-ltb 0 (m * up e * 1 + 0 * down e)
    (none (m * up e * 1) (down e)
    (eqb→eq (0 * down e) (m * up e * 1) (and_l (eqb (0 * down e) (m * up e * 1)) (eqb (0 * down e) 0) (yes h))))
  where
    none : (n d : ℕ) → 0 * d ≡ n → n + 0 * d ≤ 0
    none n d h = omega arith

-- what is neither below zero nor at least zero is a NaN
pub neither : (x : Float) → lt x nought ≡ false → le nought x ≡ false → x ≡ nan
unfolding lt le eq of_bits
neither nan h k = refl
neither (inf true) h k = absurd (true≢false h)
neither (inf false) h k = absurd (true≢false k)
neither (fin false m e) h k =
    absurd (false≢true (sym k ∙ reach (0 * down e) (m * up e * 1) (no_less (m * up e * 1) (down e))))
  where
    reach : (a b : ℕ) → a ≤ b → (ltb a b || (eqb a b && true)) ≡ true
    reach a b l = go (ltb a b) refl
      where
        go : (t : Bool) → ltb a b ≡ t → (t || (eqb a b && true)) ≡ true
        go true e = refl
        go false e = ap (λ (c : Bool). c && true) (is_true (eqb a b) (eq→eqb (le_antisymm l (ltb-false a b e))))
neither (fin true m e) h k =
    absurd
    (false≢true
    (sym k
    ∙ level-zero (0 * down e) (m * up e * 1) (zero-mul (down e)) (none (m * up e * 1) (down e)
    (ltb-false 0 (m * up e * 1 + 0 * down e) h))))
  where
    none : (n d : ℕ) → n + 0 * d ≤ 0 → n ≡ 0
    none n d h = omega arith

    level-zero : (a b : ℕ) → a ≡ 0 → b ≡ 0 → (eqb a b && eqb a 0) ≡ true
    level-zero a b p q =
        subst (λ (n : ℕ). (eqb n b && eqb n 0) ≡ true) (sym p)
        (subst (λ (n : ℕ). (eqb 0 n && eqb 0 0) ≡ true) (sym q) refl)

-- an `f64` that is level with zero is a zero
pub zero_is : (x : Float) → T (fits binary64 x) → eq x nought ≡ true → (s : Bool) × (x ≡ fin s 0 (pos 0))
unfolding eq of_bits fits
zero_is nan F h = absurd (false≢true h)
zero_is (inf s) F h = absurd (false≢true h)
zero_is (fin s m e) F h = (
  s,
  whole_unique binary64 (fin s m e) (fin s 0 (pos 0)) s 0 F tt
      (refl, eqb→eq (m * up e * 1) (0 * down e) (and_l (eqb (m * up e * 1) (0 * down e)) (same s) (yes h))) (refl, refl),
)
  where
    same : Bool → Bool
    same s = beq s false || eqb (m * up e * 1) 0

-- ---- against one
one-positive : (n d : ℕ) → 1 * d ≤ n → 0 < d → 0 * d < n
one-positive n d h k = omega arith

pub one-above-zero : (x : Float) → le one x ≡ true → lt nought x ≡ true
unfolding lt le eq of_bits
one-above-zero nan h = absurd (false≢true h)
one-above-zero (inf true) h = absurd (false≢true h)
one-above-zero (inf false) h = refl
one-above-zero (fin true m e) h = absurd (apart (1 * down e) (m * up e * 1) (down_pos e) h)
  where
    apart : (a b : ℕ) → 0 < down e → (eqb (1 * down e) b && eqb (1 * down e) 0) ≡ true → ⊥
    apart a b k h = none (down e) k (eqb→eq (1 * down e) 0 (and_r (eqb (1 * down e) b) (eqb (1 * down e) 0) (yes h)))
      where
        none : (d : ℕ) → 0 < d → 1 * d ≡ 0 → ⊥
        none d k h = omega arith
one-above-zero (fin false m e) h =
    lt-ltb (0 * down e) (m * up e * 1)
    (one-positive (m * up e * 1) (down e)
    (⊎_elim (λ l. le_of_lt (ltb-true (1 * down e) (m * up e * 1) l))
    (λ l. le_of_eq (eqb→eq (1 * down e) (m * up e * 1) (and_l (eqb (1 * down e) (m * up e * 1)) true (yes l))))
    (or_split (ltb (1 * down e) (m * up e * 1)) (eqb (1 * down e) (m * up e * 1) && true) h))
    (down_pos e))
