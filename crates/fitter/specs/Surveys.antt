-- What is known of a run table before anything is unpacked, and the run of least cost among those with a property: "the
-- lowest cost, the earlier on ties". Definitions only. Assumes nothing.
use Rattle.std.specs.Prelude.{Option, None, Some, ℕ, ◌+◌, Bool, true, false, cond, ◌||◌, Float}
use Rattle.std.specs.Float.Ieee.{lt}
use Rattle.meaning.specs.Fold.{fold}
use Rattle.fitter.specs.Runs.{no_run, point_of, wrong_place, bad_cost, at_most, top64, top32, one_if}
use Rattle.fitter.specs.declared.runs.Run.{Run}
use Rattle.fitter.specs.declared.runs.RunPoint.{RunPoint}
use Rattle.fitter.specs.declared.surveys.Best.{Best}
use Rattle.fitter.specs.declared.surveys.Survey.{Survey}

-- ---- the least
abbrev pub no_best : Best
no_best = record { run = no_run; position = 0 }

abbrev pub best_of : ℕ → Run → Best
best_of i run = record { run = run; position = i }

-- the earlier stays on ties
unfoldable pub beats : Float → Best → Bool
beats cost best = cond best.run.converged (lt cost best.run.cost) true

unfoldable pub lesser : Float → ℕ → Run → Best → Best
lesser cost i run best = cond (beats cost best) (best_of i run) best

unfoldable pub least_step : (ℕ → Run) → (Run → Bool) → ℕ → Best → Best
least_step at p i best = cond (p (at i)) (lesser (at i).cost i (at i) best) best

-- among the first n runs, those with the property p, which holds of converged runs only; `no_best` where there is none
unfoldable pub least_of : (ℕ → Run) → (Run → Bool) → ℕ → Best
least_of at p n = fold (least_step at p) 0 n no_best

-- ---- one run after another
abbrev pub no_survey : Survey
no_survey = record { wrong = false; bad = false; iterations = 0; capped = 0; least = no_best }

abbrev pub count_of : Run → Survey → Survey
count_of run s = record {
  wrong = s.wrong;
  bad = s.bad;
  iterations = at_most top64 (s.iterations + run.iterations);
  capped = at_most top32 (s.capped + one_if run.hit_cap);
  least = s.least;
}

abbrev pub weigh_of : ℕ → ℕ → ℕ → Run → Float → ℕ → Survey → Survey
weigh_of lent wanted i run cost place s = record {
  wrong = s.wrong || wrong_place place run.length lent wanted;
  bad = s.bad || bad_cost cost;
  iterations = s.iterations;
  capped = s.capped;
  least = lesser cost i run s.least;
}

-- a run without a converged point is passed over
abbrev pub after_point : ℕ → ℕ → ℕ → Run → Option RunPoint → Survey → Survey
after_point lent wanted i run None s = s
after_point lent wanted i run (Some point) s = weigh_of lent wanted i run point.cost point.place s

unfoldable pub survey_step : ℕ → ℕ → ℕ → Run → Survey → Survey
survey_step lent wanted i run s = after_point lent wanted i run (point_of run) (count_of run s)

unfoldable pub survey_of : ℕ → ℕ → (ℕ → Run) → ℕ → Survey
survey_of lent wanted at n = fold (λ (i : ℕ) (s : Survey). survey_step lent wanted i (at i) s) 0 n no_survey
