-- A cutoff below the hole cutoff removes no more than it, and so keeps the budget as it does (`lower-keeps`). And what 2,
-- the least cutoff, removes: at most the allowed share where the walk's sum through count 1 is not above it
-- (`least_kept`), and more than that where it is (`least-broken`), each up to one part in 2 ^ 36. Assumes nothing.
use Prim.Native.Nat.{ℕ, zero, suc, ◌+◌, ◌*◌, ◌^◌, ◌≤◌}
use mathlib.Core.Path.{◌≡◌, refl, sym, ap}
use mathlib.Core.Bool.{true, not}
use mathlib.Core.Logic.{inl, inr}
use native.Mathlib.Nat.{le_trans, le_of_eq, le-suc, le_of_suc-le-suc, eq-or-lt_of_le, mul-le-mul_right}
use native.Mathlib.Omega.{arith}
use lib.IntN.{ℤ, pos, negsuc, ◌*ℤ◌}
use lib.Signed.{◌≤ℤ◌}
use lib.Dec.{T, leb→le}
use lib.Ieee.{Float, binary64, fits, lt}
use lib.Ieee.Fits.{div-fits}
use Rattle.meaning.specs.Reply.{give}
use Rattle.routines.specs.Units.{units_of}
use Rattle.routines.proofs.Shapes.{exp-fits}
use Rattle.routines.proofs.Tests.{yes}
use Rattle.models.specs.declared.fit.SpectrumFit.{SpectrumFit}
use Rattle.models.specs.ClaimsCutoff.{sum_below, running, removed_by, allowed_share, AtMost, Exceeds, Supposed}
use Rattle.models.specs.Cutoffs.{probability_in, allowed_of, ceiling_of, hole_cutoff_of}
use Rattle.models.specs.Walk.{probable}
use Rattle.models.proofs.Ceilings.{ceiling-two}
use Rattle.models.proofs.ExactSums.{pos-le, units_below, below_suc, signed}
use Rattle.models.proofs.HoleCutoffs.{ceiling-most, hole-cutoff-keeps, hole-cutoff-range}
use Rattle.models.proofs.Removed.{above-exceeds, within-keeps}
use Rattle.std.specs.Prelude.{Option, Some}

-- ---- sums of fewer terms
grows : (x y : ℕ) → x ≤ x + y
grows x y = omega arith

units_mono : (p : ℕ → Float) (m n : ℕ) → m ≤ n → units_below p m ≤ units_below p n
units_mono p m zero h = le_of_eq (ap (units_below p) (none m h))
  where
    none : (m : ℕ) → m ≤ 0 → m ≡ 0
    none m h = omega arith
units_mono p m (suc n) h =
    elim (eq-or-lt_of_le h) [
      | inl e ↦ le_of_eq (ap (units_below p) e)
      | inr l ↦ le_trans (units_mono p m n (le_of_suc-le-suc l))
          (le_trans (grows (units_below p n) (units_of (p n))) (le_of_eq (sym (below_suc p n))))
    ]

below_less : (a b : ℕ) (z : ℤ) → b ≤ a → pos a ≤ℤ z → pos b ≤ℤ z
below_less a b (pos c) h l = pos-le b c (le_trans h (leb→le a c l.le))
below_less a b (negsuc c) h l = absurd l.le

lower-sum : (p : ℕ → Float) (held : (k : ℕ) → T (fits binary64 (p k))) (ceiling : ℕ)
    (between : (k : ℕ) → k ≤ ceiling → probable (p k) ≡ true) (share : ℤ) (m n : ℕ) → m ≤ n → n ≤ suc ceiling
    → AtMost (sum_below p n) share → AtMost (sum_below p m) share
lower-sum p held ceiling between share m n h top kept =
    rw (signed p held ceiling between m (le_trans h top))
    (below_less (units_below p n * 2 ^ 36) (units_below p m * 2 ^ 36) (share *ℤ pos (2 ^ 36 + 1))
    (mul-le-mul_right (2 ^ 36) (units_mono p m n h)) (rw (signed p held ceiling between n top) at kept))

module _ (fit : SpectrumFit) (budget : Float) (s : Supposed fit budget) where
  -- THE THEOREM: what is at most a hole cutoff of 3 or more keeps the budget
  pub lower-keeps : (h : ℕ) → hole_cutoff_of fit budget ≡ give (Some h) → 3 ≤ h → (c : ℕ) → c ≤ h
      → AtMost (removed_by fit c) (allowed_share fit budget)
  lower-keeps h gave three c below =
      lower-sum (probability_in fit) (λ (k : ℕ). exp-fits _) (ceiling_of fit) s.between (allowed_share fit budget) c h below
      (le_trans (hole-cutoff-range fit budget h gave).1 (le-suc (ceiling_of fit)))
      ((hole-cutoff-keeps fit budget s (Some h) gave).removes h refl three)

  -- ---- at 2
  module _ (answer : Option ℕ) (gave : hole_cutoff_of fit budget ≡ give answer) where
    one : 1 ≤ ceiling_of fit
    one = le_trans (le-suc 1) (ceiling-two fit s.starts)

    pub least_kept : T (not (lt (allowed_of fit budget) (running (probability_in fit) 1)))
        → AtMost (removed_by fit 2) (allowed_share fit budget)
    least_kept =
        within-keeps (probability_in fit) (λ (k : ℕ). exp-fits _) (ceiling_of fit) (ceiling-most fit budget answer gave)
        s.between (allowed_of fit budget) (div-fits binary64 _ _) (yes s.share) 1 one

    pub least-broken : T (lt (allowed_of fit budget) (running (probability_in fit) 1))
        → Exceeds (removed_by fit 2) (allowed_share fit budget)
    least-broken =
        above-exceeds (probability_in fit) (λ (k : ℕ). exp-fits _) (ceiling_of fit) (ceiling-most fit budget answer gave)
        s.between (allowed_of fit budget) (div-fits binary64 _ _) (yes s.share) 1 one
