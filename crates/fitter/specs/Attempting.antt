-- What one configuration came to, over a run table: document 01, "Attempts and selection", with the numbers that come
-- back instead. Definitions only. Assumes nothing.
use Rattle.std.specs.Prelude.{ℕ, Bool, cond, List, [], ◌∷◌, eqb, length, Float, None, Some}
use Rattle.meaning.specs.Numbers as number
use Rattle.meaning.specs.Reply.{Reply, give, Test, test, chain}
use Rattle.meaning.specs.Rows.{in_order, below_two, above_most}
use Rattle.models.specs.Families.{list_length_of}
use Rattle.models.specs.Refusals.{spectrum_tests, table_demand, short_table}
use Rattle.fitter.specs.Attempts.{attempt_of}
use Rattle.fitter.specs.Validation.{outside_limit}
use Rattle.fitter.specs.declared.attempts.FitAttempt.{FitAttempt}
use Rattle.fitter.specs.declared.rejections.FitRejection.TheVariants as reason
use Rattle.fitter.specs.Judging.{judged_fit_of, kept_best}
use Rattle.fitter.specs.Runs.{has_wrong_list, has_wrong_cost, any_of, iterations_of, capped_of}
use Rattle.fitter.specs.declared.runs.Run.{Run}
use Rattle.models.specs.declared.problems.Problem.{Problem}
use Rattle.fitter.specs.declared.surveys.Best.{Best}
use Rattle.fitter.specs.declared.surveys.Survey.{Survey}

-- ---- the numbers that come back instead
-- 7: a converged run's list is wrong
abbrev pub wrong_lists : Bool → List Test
wrong_lists wrong = test wrong number.wrong_length ∷ []

-- 9: a converged run's cost is wrong
abbrev pub wrong_costs : Bool → List Test
wrong_costs bad = test bad number.wrong_limit_or_cost ∷ []

-- `runs` is the number of runs, `room` the length of the shelf's table
unfoldable pub setup_tests : List ℕ → Problem → ℕ → Bool → Bool → ℕ → List Test
setup_tests bins setup runs wrong bad room =
    in_order
    (below_two (setup.peak ∷ setup.valley ∷ length bins ∷ [])
    ∷ above_most (length bins ∷ setup.peak ∷ setup.valley ∷ setup.window_end ∷ runs ∷ [])
    ∷ spectrum_tests bins setup.scale setup.window_end
    ∷ wrong_lists wrong
    ∷ wrong_costs bad
    ∷ outside_limit setup.mass_limit
    ∷ short_table setup.genome setup.window_end room
    ∷ [])

abbrev pub survey_tests : List ℕ → Problem → ℕ → Survey → ℕ → List Test
survey_tests bins setup runs survey room = setup_tests bins setup runs survey.wrong survey.bad room

-- ---- the attempt
module _ (bins : List ℕ) (setup : Problem) (lists : List Float) (room : ℕ) (at : ℕ → Run) (n : ℕ) where
  abbrev pub wanted : ℕ
  wanted = list_length_of setup.error setup.genome

  -- 7 and 9 are over the whole table
  abbrev pub attempt_tests : List Test
  attempt_tests =
      setup_tests bins setup n (any_of (λ (i : ℕ). has_wrong_list (length lists) wanted (at i)) n)
      (any_of (λ (i : ℕ). has_wrong_cost (at i)) n) room

  -- the run that is kept is the candidate; a run that did not converge stands for none
  abbrev pub candidate_of : Best → FitAttempt
  candidate_of best =
      let judged = judged_fit_of bins setup lists room best.run in
      cond best.run.converged
      (attempt_of setup.error setup.genome (Some judged.fit) judged.rejection (iterations_of at n)
      (capped_of at n))
      (attempt_of setup.error setup.genome None (Some reason.OptimisationFailed) (iterations_of at n)
      (capped_of at n))

  unfoldable pub attempt_from : Reply FitAttempt
  attempt_from = chain attempt_tests (give (candidate_of (kept_best bins setup lists room at n)))

-- from where on the shelf's table stands as found, by the answer's number: a refusal changes nothing, nor does a plain
-- family
abbrev pub stands_from : Problem → ℕ → ℕ
stands_from setup number = cond (eqb number 0) (table_demand setup.genome setup.window_end) 0
