-- A run table as a slice of numbers for each field, and as a list of runs. Definitions only. Assumes nothing.
use Rattle.std.specs.Prelude.{ℕ, cond, List, ltb, length, get_or, Float}
use Rattle.std.specs.Float.{nan}
use Rattle.meaning.specs.Flags.{is_set}
use Rattle.fitter.specs.Runs.{run_from}
use Rattle.fitter.specs.declared.run_columns.Columns.{Columns}
use Rattle.fitter.specs.declared.runs.LentRun.{LentRun}
use Rattle.fitter.specs.declared.runs.Run.{Run}

abbrev pub shorter : ℕ → ℕ → ℕ
shorter a b = cond (ltb b a) b a

-- the number of runs
abbrev pub shortest : ℕ → ℕ → ℕ → ℕ → ℕ → ℕ → ℕ
shortest a b c d e f = shorter (shorter (shorter a b) (shorter c d)) (shorter e f)

module _ (converged : List ℕ) (costs : List Float) (places lengths iterations caps : List ℕ) where
  unfoldable pub count_of_runs : ℕ
  count_of_runs =
      shortest (length converged) (length costs) (length places) (length lengths) (length iterations) (length caps)

  -- the run at a position
  unfoldable pub run_of : ℕ → Run
  run_of i = record {
    converged = is_set (get_or converged i 0);
    cost = get_or costs i nan;
    place = get_or places i 0;
    length = get_or lengths i 0;
    iterations = get_or iterations i 0;
    hit_cap = is_set (get_or caps i 0);
  }

-- ---- the same of the columns that the code holds together
abbrev pub runs_in : Columns → ℕ
runs_in c =
    count_of_runs c.converged.now c.costs.now c.places.now c.lengths.now c.iterations.now c.caps.now

abbrev pub run_at : Columns → ℕ → Run
run_at c = run_of c.converged.now c.costs.now c.places.now c.lengths.now c.iterations.now c.caps.now

-- ---- a run table as a list of lent runs
-- what stands past its end
abbrev pub past_lent : LentRun
past_lent = record { converged = 0; cost = nan; place = 0; length = 0; iterations = 0; hit_cap = 0 }

unfoldable pub run_in : List LentRun → ℕ → Run
run_in runs i = run_from (get_or runs i past_lent)
