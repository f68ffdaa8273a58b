-- A converged run as a fit, what the validator says of it, and which run is kept: document 01, "Attempts and
-- selection". Definitions only. Assumes nothing.
use Rattle.std.specs.Prelude.{ℕ, Bool, cond, ◌&&◌, List, Float, Option, None, Some}
use Rattle.models.specs.Unpacking.{fit_in, unpack_of}
use Rattle.models.specs.declared.fit.SpectrumFit.{SpectrumFit}
use Rattle.fitter.specs.Attempts.{unrejected}
use Rattle.fitter.specs.Validation.{Judgement, valid, rejected, verdict_of, reason_at}
use Rattle.fitter.specs.Runs.{list_at}
use Rattle.fitter.specs.Surveys.{least_of}
use Rattle.fitter.specs.declared.judging.JudgedFit.{JudgedFit}
use Rattle.fitter.specs.declared.runs.Run.{Run}
use Rattle.models.specs.declared.problems.Problem.{Problem}
use Rattle.fitter.specs.declared.surveys.Best.{Best}
use Rattle.fitter.specs.declared.rejections.FitRejection.{FitRejection}

abbrev pub rejection_of_judgement : Judgement → Option FitRejection
rejection_of_judgement valid = None
rejection_of_judgement (rejected n) = Some (reason_at n)

-- ---- a run, judged: `lists` holds all lists, `room` is the length of the shelf's table
module _ (bins : List ℕ) (setup : Problem) (lists : List Float) (room : ℕ) where
  -- the fit that `unpack` answers; where it refuses, which it does for no run of an attempt that passed (`unpack-is`,
  -- proofs/RunFits.antt), the empty fit, which rule 2 turns away (`empty-rejected`, proofs/Judgements.antt)
  unfoldable pub fit_of_run : Run → SpectrumFit
  fit_of_run run =
      fit_in
      (unpack_of bins setup.scale setup.window_end setup.peak setup.error setup.genome
      (list_at lists run.place run.length) run.cost run.iterations room)

  unfoldable pub judged_fit_of : Run → JudgedFit
  judged_fit_of run =
      let fit = fit_of_run run in
      record {
        fit = fit;
        rejection = rejection_of_judgement
            (verdict_of fit setup.valley setup.peak setup.mass_limit);
      }

  -- a run that converged to a valid fit
  unfoldable pub valid_run : Run → Bool
  valid_run run = run.converged && unrejected (judged_fit_of run).rejection

  -- ---- the valid one of lowest cost, the earlier on ties; with none valid, the lowest-cost one
  unfoldable pub kept_best : (ℕ → Run) → ℕ → Best
  kept_best at n =
      let best = least_of at valid_run n in
      cond best.run.converged best (least_of at (λ (run : Run). run.converged) n)
