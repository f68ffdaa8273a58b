-- `fitter::attempting::attempt_from_numbers` meets its contract. Assumes nothing.
use Prim.Native.Nat.{ℕ}
use mathlib.Core.Path.{◌≡◌, refl, ap, ◌∙◌}
use lib.ListN.{length}
use Rattle.meaning.specs.Reply.{give}
use Rattle.meaning.proofs.Says.{handed_on}
use Rattle.fitter.specs.Columns.{count_of_runs, run_of}
use Rattle.fitter.specs.Retrying.{retried_of}
use Rattle.fitter.specs.Settling.{finish_of}
use Rattle.fitter.proofs.Answered.{survey-is, settled_is, one-pass, two-passes, one-stands, two-stand}
use Rattle.fitter.proofs.attempting.attempt_from_numbers.Goals as goal

pub returns-in_err-first : goal.returns-in_err-first
returns-in_err-first c =
    let a = c.args in
    let at = run_of a.converged.now a.costs.now a.places.now a.lengths.now a.iterations.now a.caps.now in
    let n = count_of_runs a.converged.now a.costs.now a.places.now a.lengths.now a.iterations.now a.caps.now in
    let room = length a.table.now in
    let said = c.in_err-first.ensures in
    let surveyed = survey-is a.bins.now a.setup a.lists.now room at n _ _ c.list_length-wanted.ensures
    c.survey-survey.ensures in
    let settled = settled_is a.bins.now a.setup a.lists.now room at n _ _ _ c.len.ensures surveyed said.value in
    let handed = handed_on _ _ c.from_residual.ensures.1 in record {
      value = handed ∙ one-pass a.bins.now a.setup a.lists.now room at n _ _ surveyed settled refl;
      table_unchanged =
          one-stands a.bins.now a.setup a.lists.now room at n _ _ surveyed settled _ _ said.table_unchanged _ handed;
    }

pub returns-then-first : goal.returns-then-first
returns-then-first c =
    let a = c.args in
    let at = run_of a.converged.now a.costs.now a.places.now a.lengths.now a.iterations.now a.caps.now in
    let n = count_of_runs a.converged.now a.costs.now a.places.now a.lengths.now a.iterations.now a.caps.now in
    let room = length a.table.now in
    let said = c.in_ok-first.ensures in
    let survey = c.survey-survey.result in
    let first = c.in_ok-first.first in
    let surveyed = survey-is a.bins.now a.setup a.lists.now room at n _ _ c.list_length-wanted.ensures
    c.survey-survey.ensures in
    let settled = settled_is a.bins.now a.setup a.lists.now room at n _ _ _ c.len.ensures surveyed said.value in
    let held : c.retry-held.result ≡ retried_of a.bins.now a.setup a.lists.now room at n first.held =
    c.retry-held.ensures.value
    ∙ ap (λ (m : ℕ). retried_of a.bins.now a.setup a.lists.now m at n first.held) c.settle.auto.table in
    let done =
    ap give (c.finish.ensures ∙ ap (finish_of survey) c.with_held.ensures) in record {
      value = done ∙ two-passes a.bins.now a.setup a.lists.now room at n _ (give first) surveyed settled _ c.if-first.true held;
      table_unchanged =
          two-stand a.bins.now a.setup a.lists.now room at n _ (give first) surveyed settled _ _ said.table_unchanged _ _
          (give c.finish.result) done c.if-first.true c.retry-held.ensures.table_unchanged;
    }

pub returns : goal.returns
returns c =
    let a = c.args in
    let at = run_of a.converged.now a.costs.now a.places.now a.lengths.now a.iterations.now a.caps.now in
    let n = count_of_runs a.converged.now a.costs.now a.places.now a.lengths.now a.iterations.now a.caps.now in
    let room = length a.table.now in
    let said = c.in_ok-first.ensures in
    let first = c.in_ok-first.first in
    let surveyed = survey-is a.bins.now a.setup a.lists.now room at n _ _ c.list_length-wanted.ensures
    c.survey-survey.ensures in
    let settled = settled_is a.bins.now a.setup a.lists.now room at n _ _ _ c.len.ensures surveyed said.value in
    let done = ap give c.finish-2.ensures in record {
      value = done ∙ one-pass a.bins.now a.setup a.lists.now room at n _ (give first) surveyed settled c.if-first.false;
      table_unchanged =
          one-stands a.bins.now a.setup a.lists.now room at n _ (give first) surveyed settled _ _ said.table_unchanged
          (give c.finish-2.result) done;
    }
