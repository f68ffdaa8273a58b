-- What the theorems of proofs/ speak of beyond the calls' own definitions: the four tests that turn a cost away, what a
-- call writes into a lent table, the order of heights, and what the error mode is. Definitions only. Assumes nothing.
use Rattle.std.specs.Prelude.{ℕ, ◌+◌, ◌-◌, ◌^◌, ◌≤◌, ◌<◌, ◌≡◌, true, false, List, length, Float}
use Rattle.std.specs.Float.{nan, inf, fin}
use Rattle.meaning.specs.Over.{over}
use Rattle.routines.specs.Ops.{of_count}
use Rattle.routines.specs.Units.{units_of}
use Rattle.models.specs.Costs.{mode_held, likelihood_usable}
use Rattle.models.specs.Errors.{log_probability_of}
use Rattle.models.specs.Likelihoods.{likelihood_of}
use Rattle.models.specs.Masses.{entries_of, window_masses_of, masses_usable}
use Rattle.models.specs.Usable.{params_usable}
use Rattle.models.specs.declared.errors.ErrorParams.{ErrorParams}
use Rattle.models.specs.declared.params.Params.{Params}
use Rattle.models.specs.declared.window_masses.WindowMasses.{WindowMasses}

-- ---- a cost turned away
-- what the window is measured by, at some parameters
abbrev pub masses_at : ℕ → Params → WindowMasses
masses_at end p = window_masses_of p (entries_of p.shelf p.mean end) end

abbrev pub total_at : List ℕ → Float → ℕ → Params → Float
total_at bins scale end p = likelihood_of bins scale end p (masses_at end p) (entries_of p.shelf p.mean end)

-- the four tests of models.rs
pub data TurnedAway (bins : List ℕ) (scale : Float) (end : ℕ) (p : Params) : Type 0 where
  parameters : params_usable p ≡ false → TurnedAway bins scale end p
  round_trip : mode_held p ≡ false → TurnedAway bins scale end p
  window_mass : masses_usable (masses_at end p) ≡ false → TurnedAway bins scale end p
  log_likelihood : likelihood_usable (total_at bins scale end p) ≡ false → TurnedAway bins scale end p

-- ---- a lent table
-- `written` stands in front, and behind it what the table held
pub record Writes (written held after : List Float) : Type 0 where
  pub room : length written ≤ length held
  pub stands : after ≡ over written held

-- ---- the order of heights
-- above every finite value's units
abbrev pub middle : ℕ
middle = 2 ^ (1074 + 1024)

-- -inf, the negative numbers, -0, +0, the positive numbers, +inf
unfoldable pub rank : Float → ℕ
rank nan = 0
rank (inf true) = 0
rank (inf false) = middle + middle + 2
rank (fin true m e) = middle - units_of (fin true m e)
rank (fin false m e) = middle + 1 + units_of (fin false m e)

-- ---- the error mode
abbrev pub log_at : ErrorParams → ℕ → Float
log_at p k = log_probability_of p (of_count k)

-- the count c of the highest log probability among the counts 1 to top, and of equals the last
pub record ErrorMode (p : ErrorParams) (top c : ℕ) : Type 0 where
  pub first : 1 ≤ c
  pub last : c ≤ top
  pub earlier : (k : ℕ) → 1 ≤ k → k ≤ c → rank (log_at p k) ≤ rank (log_at p c)
  pub later : (k : ℕ) → c < k → k ≤ top → rank (log_at p k) < rank (log_at p c)
