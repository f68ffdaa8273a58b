-- The whole number that `round_of` or `floor_of` makes of a value of the format is one that the format holds:
-- `Ieee.round` changes nothing there.
-- So `round_of x` has x's sign and is `half_up` of x's size exactly, and `floor_of x` is `downward` of it. Assumes
-- nothing.
use Rattle.std.proofs.Common.{◌≡◌, ℕ, ◌+◌, ◌-◌, ◌*◌, ◌^◌, ◌<◌, ◌≤◌, Bool, true, false, not, T, ltb, ℤ, pos, sym, refl}
use Rattle.std.proofs.Common.{ap, ◌∙◌, subst, le_of_lt, zero-lt-suc, div-lt_iff_lt-mul, mul-pos, mul-one}
use Rattle.std.proofs.Common.{mul-div_cancel, arith, ltb→lt, nltb→le}
use lib.Ieee.{Float, fin, binary64, up, down, round, fits}
use lib.Ieee.Fits.{down_pos}
use lib.Ieee.Exact.{HasValue}
use lib.Ieee.Back.{round_whole}
use Rattle.routines.specs.Whole.{round_of, floor_of, half_up, ceiling, downward}
use Rattle.routines.proofs.Sizes.{large, large-stays, half-up-whole, ceiling-whole}

-- a way g to turn a size a / d into a whole number, that keeps whole numbers and stays near below 2 ^ 52
module _ (g : ℕ → ℕ → ℕ) (keeps : (c d : ℕ) → 0 < d → g (c * d) d ≡ c) (few : (a d : ℕ) → 0 < d → a < 2 ^ 52 * d → g a d ≤ 2 ^ 53) where
  whole-value : (s : Bool) (m : ℕ) (e : ℤ) (k : ℕ) → e ≡ pos k → HasValue (fin s m e) s (g (m * up e) (down e)) 1
  whole-value s m e k i = subst (λ (z : ℤ). HasValue (fin s m z) s (g (m * up z) (down z)) 1) (sym i) (refl, value)
    where
      value : m * 2 ^ k * 1 ≡ g (m * 2 ^ k) 1 * 1
      value =
          ap (λ (z : ℕ). z * 1)
          (sym (keeps (m * 2 ^ k) 1 (zero-lt-suc 0)) ∙ ap (λ (z : ℕ). g z 1) (mul-one (m * 2 ^ k)))

  exactly : (s : Bool) (m : ℕ) (e : ℤ) → T (fits binary64 (fin s m e))
      → HasValue (round binary64 s (g (m * up e) (down e)) 1) s (g (m * up e) (down e)) 1
  exactly s m e F =
      go (ltb (m * up e) (2 ^ 52 * down e)) (ltb→lt (m * up e) (2 ^ 52 * down e)) (nltb→le (m * up e) (2 ^ 52 * down e))
    where
      go : (b : Bool) → (T b → m * up e < 2 ^ 52 * down e) → (T (not b) → 2 ^ 52 * down e ≤ m * up e)
          → HasValue (round binary64 s (g (m * up e) (down e)) 1) s (g (m * up e) (down e)) 1
      go true l h = round_whole binary64 s (g (m * up e) (down e)) (few (m * up e) (down e) (down_pos e) (l tt))
      go false l h =
          let k = large s m e F (h tt) in
          subst (λ (x : Float). HasValue x s (g (m * up e) (down e)) 1) (large-stays g keeps s m e F (h tt))
          (whole-value s m e k.0 k.1)

-- ---- the three ways
few-half-up : (a d : ℕ) → 0 < d → a < 2 ^ 52 * d → half_up a d ≤ 2 ^ 53
unfolding half_up
few-half-up a d D h = le_of_lt ((div-lt_iff_lt-mul (mul-pos (zero-lt-suc 1) D)).1 (lt a d D h))
  where
    lt : (a d : ℕ) → 0 < d → a < 2 ^ 52 * d → 2 * a + d < 2 ^ 53 * (2 * d)
    lt a d D h = omega arith

few-downward : (s : Bool) (a d : ℕ) → 0 < d → a < 2 ^ 52 * d → downward s a d ≤ 2 ^ 53
unfolding ceiling
few-downward false a d D h = le_of_lt ((div-lt_iff_lt-mul D).1 (lt a d h))
  where
    lt : (a d : ℕ) → a < 2 ^ 52 * d → a < 2 ^ 53 * d
    lt a d h = omega arith
few-downward true a d D h = le_of_lt ((div-lt_iff_lt-mul D).1 (lt a d D h))
  where
    lt : (a d : ℕ) → 0 < d → a < 2 ^ 52 * d → a + (d - 1) < 2 ^ 53 * d
    lt a d D h = omega arith

pub downward-whole : (s : Bool) (c d : ℕ) → 0 < d → downward s (c * d) d ≡ c
downward-whole false c d D = mul-div_cancel c D
downward-whole true c d D = ceiling-whole c d D

-- ---- THE STATEMENTS
pub round-exactly : (s : Bool) (m : ℕ) (e : ℤ) → T (fits binary64 (fin s m e))
    → HasValue (round_of (fin s m e)) s (half_up (m * up e) (down e)) 1
unfolding round_of
round-exactly s m e F = exactly half_up half-up-whole few-half-up s m e F

pub floor-exactly : (s : Bool) (m : ℕ) (e : ℤ) → T (fits binary64 (fin s m e))
    → HasValue (floor_of (fin s m e)) s (downward s (m * up e) (down e)) 1
unfolding floor_of
floor-exactly s m e F = exactly (downward s) (downward-whole s) (few-downward s) s m e F
