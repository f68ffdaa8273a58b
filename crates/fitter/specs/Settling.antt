-- How an attempt comes to its answer, in two passes over the run table: what the code goes through. It is the attempt of
-- specs/Attempting.antt (`answered`, proofs/Attempted.antt). Definitions only. Assumes nothing.
use Rattle.std.specs.Prelude.{ℕ, false, not, cond, List, length, Float, None, Some}
use Rattle.meaning.specs.Onward.{onward}
use Rattle.meaning.specs.Reply.{Reply, give, chain}
use Rattle.models.specs.Families.{list_length_of}
use Rattle.models.specs.Unpacking.{empty_fit}
use Rattle.fitter.specs.Attempts.{attempt_of, unrejected}
use Rattle.fitter.specs.declared.rejections.FitRejection.TheVariants as reason
use Rattle.fitter.specs.Attempting.{survey_tests}
use Rattle.fitter.specs.Retrying.{held_of, retried_of}
use Rattle.fitter.specs.Surveys.{no_best, survey_of}
use Rattle.fitter.specs.declared.judging.Held.{Held}
use Rattle.fitter.specs.declared.runs.Run.{Run}
use Rattle.fitter.specs.declared.attempts.FitAttempt.{FitAttempt}
use Rattle.fitter.specs.declared.settling.Settled.{Settled}
use Rattle.models.specs.declared.problems.Problem.{Problem}
use Rattle.fitter.specs.declared.surveys.Survey.{Survey}

unfoldable pub no_held : Held
no_held = record { best = no_best; judged = record { fit = empty_fit; rejection = None } }

-- no run converged
abbrev pub unheld_by : Problem → Settled
unheld_by setup = record { unsettled = false; setup = setup; held = no_held }

-- unsettled where it is rejected
abbrev pub held_by : Problem → Held → Settled
held_by setup held = record { unsettled = not (unrejected held.judged.rejection); setup = setup; held = held }

unfoldable pub settle_of : List ℕ → Problem → ℕ → Survey → List Float → ℕ → Reply Settled
settle_of bins setup runs survey lists room =
    chain (survey_tests bins setup runs survey room)
    (give
    (cond survey.least.run.converged (held_by setup (held_of bins setup lists room survey.least)) (unheld_by setup)))

abbrev pub with_held : Settled → Held → Settled
with_held s held = record { unsettled = s.unsettled; setup = s.setup; held = held }

abbrev pub failed_attempt : Problem → Survey → FitAttempt
failed_attempt setup survey =
    attempt_of setup.error setup.genome None (Some reason.OptimisationFailed) survey.iterations
    survey.capped

abbrev pub kept_attempt : Problem → Survey → Held → FitAttempt
kept_attempt setup survey held =
    attempt_of setup.error setup.genome (Some held.judged.fit) held.judged.rejection survey.iterations
    survey.capped

unfoldable pub finish_of : Survey → Settled → FitAttempt
finish_of survey s =
    cond s.held.best.run.converged (kept_attempt s.setup survey s.held) (failed_attempt s.setup survey)

-- ---- the whole
module _ (bins : List ℕ) (setup : Problem) (lists : List Float) (room : ℕ) (at : ℕ → Run) (n : ℕ) where
  abbrev pub surveyed : Survey
  surveyed = survey_of (length lists) (list_length_of setup.error setup.genome) at n

  abbrev pub settled : Reply Settled
  settled = settle_of bins setup n surveyed lists room

  -- the second pass, where the first left it unsettled
  abbrev pub again : Settled → Settled
  again s = cond s.unsettled (with_held s (retried_of bins setup lists room at n s.held)) s

  unfoldable pub answered_of : Reply FitAttempt
  answered_of = onward (λ (s : Settled). finish_of surveyed (again s)) settled
