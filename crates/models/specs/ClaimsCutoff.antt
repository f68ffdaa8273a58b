-- Demand 3, word for word: what is supposed, and what then holds of the exact sums of the probabilities.
-- Every finite `f64` is a whole multiple of 2 ^ -1074 (`probability-whole`, `share-whole` in proofs/HoleCutoffs.antt).
-- Sums and comparisons are those of these whole numbers, with both sides times 2 ^ 36 where one part in 2 ^ 36 is
-- allowed. And what the walk finds, by its f64 sums, below a ceiling that is told without its definition.
-- Definitions only. Assumes nothing.
use Rattle.std.specs.Prelude.{ℕ, zero, suc, ◌+◌, ◌*◌, ◌^◌, ◌≤◌, ◌<◌, max, ◌≡◌, true, false, ℤ, pos, neg_ℤ, ◌+ℤ◌, ◌*ℤ◌}
use Rattle.std.specs.Prelude.{◌≤ℤ◌, ◌<ℤ◌, Float}
use Rattle.std.specs.Float.{nan, inf, fin}
use Rattle.std.specs.Float.Ieee.{lt}
use Rattle.std.specs.Float.Ieee.Positive.{num, den}
use Rattle.std.specs.Float.Ieee.Scale.{finite}
use Rattle.meaning.specs.Reply.{Reply, refuse, broken, give}
use Rattle.routines.specs.Ops.{◌⊕◌}
use Rattle.routines.specs.Units.{units_of}
use Rattle.models.specs.declared.fit.SpectrumFit.{SpectrumFit}
use Rattle.models.specs.Cutoffs.{probability_in, walk_starts, allowed_of, ceiling_of, hole_cutoff_of}
use Rattle.models.specs.Cutoffs.{Sureness, sure, not_sure, no_walk}
use Rattle.models.specs.Walk.{probable}
use Rattle.std.specs.Prelude.{Option, None, Some}

-- a finite value in units of 2 ^ -1074; either zero is 0, and so are a NaN and an infinity, which no sum below has
unfoldable pub in_units : Float → ℤ
in_units nan = pos 0
in_units (inf s) = pos 0
in_units (fin false m e) = pos (units_of (fin false m e))
in_units (fin true m e) = neg_ℤ (pos (units_of (fin true m e)))

-- p 0 + .. + p (n - 1)
unfoldable pub sum_below : (ℕ → Float) → ℕ → ℤ
sum_below p zero = pos 0
sum_below p (suc n) = sum_below p n +ℤ in_units (p n)

-- ---- demand 3
-- the sum of the single-copy probabilities below c, which is what a cutoff of c removes, and the allowed share
abbrev pub removed_by : SpectrumFit → ℕ → ℤ
removed_by fit c = sum_below (probability_in fit) c

abbrev pub allowed_share : SpectrumFit → Float → ℤ
allowed_share fit budget = in_units (allowed_of fit budget)

-- the sum is at most the share and one part in 2 ^ 36 of it
abbrev pub AtMost : ℤ → ℤ → Type 0
AtMost sum share = (sum *ℤ pos (2 ^ 36)) ≤ℤ (share *ℤ pos (2 ^ 36 + 1))

-- the sum, enlarged by one part in 2 ^ 36, exceeds the share
abbrev pub Exceeds : ℤ → ℤ → Type 0
Exceeds sum share = (share *ℤ pos (2 ^ 36)) <ℤ (sum *ℤ pos (2 ^ 36 + 1))

-- Suppose the walk for the hole cutoff starts, the allowed share is finite, and each single-copy probability from count
-- 0 to the ceiling lies between 0 and 2.
pub record Supposed (fit : SpectrumFit) (budget : Float) : Type 0 where
  pub starts : walk_starts fit ≡ true
  pub share : finite (allowed_of fit budget) ≡ true
  pub between : (k : ℕ) → k ≤ ceiling_of fit → probable (probability_in fit k) ≡ true

-- Then a cutoff of 3 or more removes at most the allowed share and one part in 2 ^ 36 of it; with any cutoff returned,
-- the sum up to and including it, enlarged by one part in 2 ^ 36, exceeds the allowed share; with none, the sum below
-- the ceiling is at most that share and one part in 2 ^ 36 of it.
pub record Keeps (fit : SpectrumFit) (budget : Float) (answer : Option ℕ) : Type 0 where
  pub removes : (c : ℕ) → answer ≡ Some c → 3 ≤ c → AtMost (removed_by fit c) (allowed_share fit budget)
  pub reaches : (c : ℕ) → answer ≡ Some c → Exceeds (removed_by fit (suc c)) (allowed_share fit budget)
  pub stays : answer ≡ None → AtMost (removed_by fit (ceiling_of fit)) (allowed_share fit budget)

-- of a reply to `hole_cutoff`
abbrev pub Demanded : SpectrumFit → Float → Reply (Option ℕ) → Type 0
Demanded fit budget reply = Supposed fit budget → (answer : Option ℕ) → reply ≡ give answer → Keeps fit budget answer

-- of a reply to `hole_cutoff_sure`: where it is sure nothing is supposed, and the cutoff is the hole cutoff
abbrev pub DemandedSure : SpectrumFit → Float → Reply Sureness → Type 0
DemandedSure fit budget reply =
    (answer : Option ℕ) → reply ≡ give (sure answer) → (hole_cutoff_of fit budget ≡ give answer) × Keeps fit budget answer

-- ---- the sharper bound behind it
-- the f64 sum of p 0 to p k, after k additions
unfoldable pub running : (ℕ → Float) → ℕ → Float
running p zero = p 0
running p (suc k) = running p k ⊕ p (suc k)

-- 2 ^ 53 |s - S| ≤ k s, with s the f64 sum after k additions and S the exact one
pub record Sharp (p : ℕ → Float) (k : ℕ) : Type 0 where
  pub over : (in_units (running p k) *ℤ pos (2 ^ 53))
      ≤ℤ (sum_below p (suc k) *ℤ pos (2 ^ 53) +ℤ pos k *ℤ in_units (running p k))
  pub under : (sum_below p (suc k) *ℤ pos (2 ^ 53))
      ≤ℤ (in_units (running p k) *ℤ pos (2 ^ 53) +ℤ pos k *ℤ in_units (running p k))

-- ---- what the walk finds
-- c is the first count from 1 to ceiling - 1 whose f64 sum through it is above what is allowed
pub record FirstAbove (p : ℕ → Float) (allowed : Float) (ceiling c : ℕ) : Type 0 where
  pub first : 1 ≤ c
  pub last : c < ceiling
  pub there : lt allowed (running p c) ≡ true
  pub earlier : (j : ℕ) → 1 ≤ j → j < c → lt allowed (running p j) ≡ false

-- with none there is no such count; a cutoff is that count, or 2 for 1
abbrev pub Finds : (ℕ → Float) → Float → ℕ → Option ℕ → Type 0
Finds p allowed ceiling None = (j : ℕ) → 1 ≤ j → j < ceiling → lt allowed (running p j) ≡ false
Finds p allowed ceiling (Some r) = (c : ℕ) × (r ≡ max c 2) × FirstAbove p allowed ceiling c

-- of a fit and a budget
abbrev pub HoleFinds : SpectrumFit → Float → Option ℕ → Type 0
HoleFinds fit budget = Finds (probability_in fit) (allowed_of fit budget) (ceiling_of fit)

-- n is the largest whole number that is at most the window end and at most the mean and a half: so it is the smaller of
-- the window end and the mean to the nearest whole number, a half up. The mean is num / den.
pub record Ceiling (fit : SpectrumFit) (n : ℕ) : Type 0 where
  pub window : n ≤ fit.fit_window_end
  pub rounded : 2 * n * den fit.mean ≤ 2 * num fit.mean + den fit.mean
  pub largest : n < fit.fit_window_end → 2 * num fit.mean + den fit.mean < 2 * suc n * den fit.mean

-- ---- the cutoff that `hole_cutoff_sure` tells
abbrev pub told : Sureness → Option ℕ
told (sure c) = c
told (not_sure c) = c
told no_walk = None

abbrev pub told_of : Reply Sureness → Reply (Option ℕ)
told_of (refuse n) = refuse n
told_of (broken place) = broken place
told_of (give s) = give (told s)
