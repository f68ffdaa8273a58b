-- What the theorems on an attempt's candidate speak of: a run's own list, unpacked as `unpack` does and judged as
-- `validate_fit` does. Definitions only. Assumes nothing.
use Rattle.std.specs.Prelude.{ℕ, ◌+◌, ◌≤◌, ◌<◌, ◌≡◌, true, List, length, take, drop, Float, Option}
use Rattle.meaning.specs.Reply.{Reply, give}
use Rattle.models.specs.Refusals.{table_demand}
use Rattle.models.specs.Unpacking.{unpack_of}
use Rattle.models.specs.declared.fit.SpectrumFit.{SpectrumFit}
use Rattle.fitter.specs.Attempts.{candidate_in}
use Rattle.fitter.specs.Judging.{rejection_of_judgement}
use Rattle.fitter.specs.Validation.{Judgement, validate_of}
use Rattle.fitter.specs.declared.attempts.FitAttempt.{FitAttempt}
use Rattle.fitter.specs.declared.runs.Run.{Run}
use Rattle.models.specs.declared.problems.Problem.{Problem}
use Rattle.fitter.specs.declared.surveys.Best.{Best}
use Rattle.fitter.specs.declared.rejections.FitRejection.{FitRejection}

-- a table of this length is not refused with 10
abbrev pub LongEnough : Problem → ℕ → Type 0
LongEnough setup room = table_demand setup.genome setup.window_end ≤ room

-- a run's own list
abbrev pub list_of : List Float → Run → List Float
list_of lists run = take run.length (drop run.place lists)

-- what `unpack` answers for it, with the run's cost and iterations, over a table of this length
abbrev pub unpack_run : List ℕ → Problem → List Float → Run → ℕ → Reply SpectrumFit
unpack_run bins setup lists run room =
    unpack_of bins setup.scale setup.window_end setup.peak setup.error setup.genome
    (list_of lists run) run.cost run.iterations room

-- a run's fit, and what speaks against it
pub record RunFit (bins : List ℕ) (setup : Problem) (lists : List Float) (run : Run) (fit : SpectrumFit)
    (rejection : Option FitRejection) : Type 0 where
  pub inside : run.place + run.length ≤ length lists
  -- whatever table is lent
  pub unpacked : (room : ℕ) → LongEnough setup room → unpack_run bins setup lists run room ≡ give fit
  pub verdict : Judgement
  pub validated : validate_of fit setup.valley setup.peak setup.mass_limit ≡ give verdict
  pub said : rejection ≡ rejection_of_judgement verdict

-- an attempt's candidate is the fit of a run of the table
pub record FromRun (bins : List ℕ) (setup : Problem) (lists : List Float) (at : ℕ → Run) (n : ℕ) (best : Best)
    (attempt : FitAttempt) : Type 0 where
  pub below : best.position < n
  pub there : best.run ≡ at best.position
  pub converged : best.run.converged ≡ true
  pub fits : RunFit bins setup lists best.run (candidate_in attempt) attempt.rejection
