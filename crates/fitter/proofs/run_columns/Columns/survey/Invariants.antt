-- `fitter::run_columns::Columns::survey` meets its contract. Assumes nothing.
use Prim.Native.Nat.{ℕ}
use Rattle.meaning.proofs.Loops.{Folded}
use Rattle.fitter.specs.Columns.{runs_in, run_at}
use Rattle.fitter.specs.Surveys.{no_survey, survey_step}
use Rattle.fitter.specs.declared.surveys.Survey.{Survey}
use Rattle.fitter.proofs.run_columns.Columns.survey.Given as goal

abbrev pub invariant-loop-i : goal.invariant-loop-i
invariant-loop-i l =
    Folded (λ (j : ℕ) (s : Survey). survey_step l.lent l.wanted j (run_at l.self j) s) no_survey 0 (runs_in l.self) l.s l.i
