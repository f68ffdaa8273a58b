-- Costs that no run is refused for, finite and above 0, are ordered: what is below one is below each that is not below
-- it. Assumes nothing.
use Prim.Native.Nat.{ℕ, ◌+◌, ◌*◌, ◌≤◌, ◌<◌}
use mathlib.Core.Path.{◌≡◌, refl, sym, ◌∙◌, subst}
use mathlib.Core.Bool.{Bool, true, false, ◌&&◌, ◌||◌, true≢false}
use native.Mathlib.Nat.{mul_right_comm, mul-le-mul_right, mul-lt-mul_of_pos_right, lt_of_mul-lt-mul_right}
use native.Mathlib.Nat.{lt_of_lt_of_le, lt_of_le_of_lt, le_of_eq, le_of_lt, le_refl}
use native.Mathlib.Omega.{arith}
use borrow.Author.Tests.{lt-ltb, le-ltb, ltb-true, ltb-false}
use lib.IntN.{ℤ}
use lib.Dec.{ltb, eqb}
use lib.Ieee.{Float, nan, inf, fin, up, down, lt, le, eq, of_bits}
use lib.Ieee.Fits.{down_pos}
use Rattle.routines.specs.Constants as float
use Rattle.fitter.specs.Runs.{bad_cost}

-- ---- such a cost has no sign
negative-low : (a b : ℕ) → (ltb 0 (a + b) || (eqb a b && eqb a 0)) ≡ true
negative-low a b = go (ltb 0 (a + b)) refl
  where
    none : (a b : ℕ) → a + b ≤ 0 → (a ≡ 0) × (b ≡ 0)
    none a b h = (omega arith, omega arith)

    go : (l : Bool) → ltb 0 (a + b) ≡ l → (l || (eqb a b && eqb a 0)) ≡ true
    go true e = refl
    go false e = let z = none a b (ltb-false 0 (a + b) e) in rw (z.0, z.1)

negative-bad : (m : ℕ) (e : ℤ) → le (fin true m e) float.zero ≡ true
unfolding le lt eq of_bits
negative-bad m e = negative-low (m * up e * 1) (0 * down e)

pub data Plain : Float → Type 0 where
  plain : (m : ℕ) (e : ℤ) → Plain (fin false m e)

pub plain-cost : (x : Float) → bad_cost x ≡ false → Plain x
unfolding bad_cost
plain-cost nan g = absurd (true≢false g)
plain-cost (inf s) g = absurd (true≢false g)
plain-cost (fin true m e) g = absurd (true≢false (sym (negative-bad m e) ∙ g))
plain-cost (fin false m e) g = plain m e

-- ---- fractions A / a, B / b, C / c
module _ (A B C a b c : ℕ) where
  crossed : 0 < c → A * b < B * a → B * c ≤ C * b → A * c < C * a
  crossed pc h k =
      lt_of_mul-lt-mul_right b
      (lt_of_le_of_lt (le_of_eq (mul_right_comm A c b))
      (lt_of_lt_of_le (mul-lt-mul_of_pos_right h pc)
      (moved (mul-le-mul_right a k))))
    where
      moved : B * c * a ≤ C * b * a → B * a * c ≤ C * a * b
      moved l =
          subst (λ (x : ℕ). x ≤ C * a * b) (mul_right_comm B c a)
          (subst (λ (x : ℕ). B * c * a ≤ x) (mul_right_comm C b a) l)

-- ---- the order
pub below-those : {x y z : Float} → Plain x → Plain y → Plain z → lt x y ≡ true → lt z y ≡ false → lt x z ≡ true
unfolding lt
below-those (plain m e) (plain n d) (plain k f) h i =
    lt-ltb _ _
    (crossed (m * up e) (n * up d) (k * up f) (down e) (down d) (down f) (down_pos f)
    (ltb-true _ _ h) (ltb-false _ _ i))

pub not-both : {x y : Float} → Plain x → Plain y → lt x y ≡ true → lt y x ≡ false
unfolding lt
not-both (plain m e) (plain n d) h =
    le-ltb (n * up d * down e) (m * up e * down d) (le_of_lt (ltb-true (m * up e * down d) (n * up d * down e) h))

pub not_itself : {x : Float} → Plain x → lt x x ≡ false
unfolding lt
not_itself (plain m e) = le-ltb (m * up e * down e) (m * up e * down e) (le_refl (m * up e * down e))
