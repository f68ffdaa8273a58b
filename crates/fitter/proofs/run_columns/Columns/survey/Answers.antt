-- `fitter::run_columns::Columns::survey` meets its contract. Assumes nothing.
use Prim.Native.Nat.{zero-le}
use mathlib.Core.Path.{ap, ◌∙◌}
use native.Mathlib.Omega.{arith}
use Rattle.meaning.proofs.Loops.{begins, goes_on, ends}
use Rattle.fitter.specs.Surveys.{survey_step, survey_of}
use Rattle.fitter.specs.declared.runs.Run.{Run}
use Rattle.std.specs.Prelude.{None}
use Rattle.fitter.proofs.Surveyed.{point-step}
use Rattle.fitter.proofs.run_columns.Columns.survey.Goals as goal

pub loop-i-init : goal.loop-i-init
loop-i-init c = begins _ _ _ _ _ zero-le c.no_survey-s.ensures

pub loop-i-preserved-in_default : goal.loop-i-preserved-in_default
loop-i-preserved-in_default c =
    let a = c.args in
    goes_on _ _ _ _ c.loop-i.invariant _ (omega arith)
    (point-step a.lent a.wanted c.loop-i.i _ c.loop-i.s _ _ None c.count_run-s.ensures c.run_point.ensures c.in_default.is
    ∙ ap (λ (run : Run). survey_step a.lent a.wanted c.loop-i.i run c.loop-i.s) c.run_at-run.ensures)

pub loop-i-preserved : goal.loop-i-preserved
loop-i-preserved c =
    let a = c.args in
    goes_on _ _ _ _ c.loop-i.invariant _ (omega arith)
    (c.weigh_run-s.ensures
    ∙ point-step a.lent a.wanted c.loop-i.i _ c.loop-i.s _ _ _ c.count_run-s.ensures c.run_point.ensures c.in-Some.is
    ∙ ap (λ (run : Run). survey_step a.lent a.wanted c.loop-i.i run c.loop-i.s) c.run_at-run.ensures)

pub returns : goal.returns
unfolding survey_of
returns c = ends _ _ _ _ c.loop-i.invariant (omega arith)
