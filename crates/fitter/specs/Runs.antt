-- A run of the search: what document 01 asks of one, under "Attempts and selection" and in its table of numbers, and
-- the totals over a run table. A table is its runs by their positions, `at`, and their number. Definitions only.
-- Assumes nothing.
use Rattle.std.specs.Prelude.{Option, None, Some, ℕ, ◌+◌, Bool, false, not, cond, ◌&&◌, ◌||◌, List, [], ltb, eqb, length, take, drop, Float}
use Rattle.std.specs.Float.Ieee.{le}
use Rattle.std.specs.Float.Ieee.Scale.{finite}
use Rattle.meaning.specs.Flags.{is_set}
use Rattle.meaning.specs.Fold.{fold}
use Rattle.routines.specs.Constants as float
use Rattle.fitter.specs.declared.runs.LentRun.{LentRun}
use Rattle.fitter.specs.declared.runs.Run.{Run}
use Rattle.fitter.specs.declared.runs.RunPoint.{RunPoint}

-- what stands for no run
abbrev pub no_run : Run
no_run = record {
  converged = false;
  cost = float.zero;
  place = 0;
  length = 0;
  iterations = 0;
  hit_cap = false;
}

-- a lent run's flags are bytes
abbrev pub run_from : LentRun → Run
run_from lent = record {
  converged = is_set lent.converged;
  cost = lent.cost;
  place = lent.place;
  length = lent.length;
  iterations = lent.iterations;
  hit_cap = is_set lent.hit_cap;
}

abbrev pub point_of : Run → Option RunPoint
point_of run = cond run.converged (Some (record { cost = run.cost; place = run.place })) None

-- ---- 7: the list has the wrong length for its families, or does not lie in the lent numbers
unfoldable pub wrong_place : ℕ → ℕ → ℕ → ℕ → Bool
wrong_place place n lent wanted = not (eqb n wanted) || ltb lent (place + n)

unfoldable pub has_wrong_list : ℕ → ℕ → Run → Bool
has_wrong_list lent wanted run = run.converged && wrong_place run.place run.length lent wanted

-- ---- 9: a cost that is not finite or not above 0
unfoldable pub bad_cost : Float → Bool
bad_cost cost = not (finite cost) || le cost float.zero

unfoldable pub has_wrong_cost : Run → Bool
has_wrong_cost run = run.converged && bad_cost run.cost

-- ---- a run's list: empty where it does not lie in the lent numbers, which is 7
unfoldable pub list_at : List Float → ℕ → ℕ → List Float
list_at lists place n = cond (ltb (length lists) (place + n)) [] (take n (drop place lists))

-- ---- over the first n runs
unfoldable pub sum_of : (ℕ → ℕ) → ℕ → ℕ
sum_of term n = fold (λ (i total : ℕ). total + term i) 0 n 0

unfoldable pub any_of : (ℕ → Bool) → ℕ → Bool
any_of p n = fold (λ (i : ℕ) (so : Bool). so || p i) 0 n false

unfoldable pub at_most : ℕ → ℕ → ℕ
at_most top n = cond (ltb top n) top n

-- 2^64 - 1, and 2^32 - 1
abbrev pub top64 : ℕ
top64 = 18446744073709551615

abbrev pub top32 : ℕ
top32 = 4294967295

-- the iterations of all runs, stopping at 2^64 - 1
unfoldable pub iterations_of : (ℕ → Run) → ℕ → ℕ
iterations_of at n = at_most top64 (sum_of (λ (i : ℕ). (at i).iterations) n)

abbrev pub one_if : Bool → ℕ
one_if b = cond b 1 0

-- how many runs ran into their cap
unfoldable pub capped_of : (ℕ → Run) → ℕ → ℕ
capped_of at n = sum_of (λ (i : ℕ). one_if (at i).hit_cap) n
