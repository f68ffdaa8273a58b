-- The second pass over a run table, behind the rejected run of least cost: what the code goes through. Nothing here has
-- to be held beside document 01: what it comes to is `kept_best` of specs/Judging.antt (`kept-retried`,
-- proofs/Keeping.antt). Definitions only. Assumes nothing.
use Rattle.std.specs.Prelude.{ℕ, Bool, true, cond, ◌&&◌, List, Float}
use Rattle.std.specs.Float.Ieee.{lt}
use Rattle.meaning.specs.Fold.{fold}
use Rattle.models.specs.Refusals.{table_demand}
use Rattle.fitter.specs.Attempts.{unrejected}
use Rattle.fitter.specs.Surveys.{best_of}
use Rattle.fitter.specs.declared.judging.Held.{Held}
use Rattle.fitter.specs.declared.runs.Run.{Run}
use Rattle.models.specs.declared.problems.Problem.{Problem}
use Rattle.fitter.specs.declared.surveys.Best.{Best}
use Rattle.fitter.specs.Judging.{judged_fit_of}

-- from where on the shelf's table stands as found
abbrev pub table_from : Problem → ℕ
table_from setup = table_demand setup.genome setup.window_end

-- whether a run of this cost is kept instead, should it be valid
unfoldable pub could_win : Held → Float → Bool
could_win held cost = cond (unrejected held.judged.rejection) (lt cost held.best.run.cost) true

-- ---- a run, judged: `lists` holds all lists, `room` is the length of the shelf's table
module _ (bins : List ℕ) (setup : Problem) (lists : List Float) (room : ℕ) where
  abbrev pub held_of : Best → Held
  held_of best = record { best = best; judged = judged_fit_of bins setup lists room best.run }

  -- ---- one run after another, behind the rejected one of least cost
  unfoldable pub retry_step : ℕ → Run → Held → Held
  retry_step i run held =
      cond (run.converged && could_win held run.cost && unrejected
      (judged_fit_of bins setup lists room run).rejection)
      (held_of (best_of i run)) held

  -- over the first n runs
  unfoldable pub retried_of : (ℕ → Run) → ℕ → Held → Held
  retried_of at n held = fold (λ (i : ℕ) (kept : Held). retry_step i (at i) kept) 0 n held
