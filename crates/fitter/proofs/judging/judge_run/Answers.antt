-- `fitter::judging::judge_run` meets its contract. Assumes nothing.
use mathlib.Core.Path.{ap, ◌∙◌}
use Rattle.std.specs.Result.{result_unwrap_or}
use Rattle.fitter.proofs.Judgements.{judged-is}
use Rattle.fitter.proofs.Standing.{unpacked-stands}
use Rattle.fitter.proofs.judging.judge_run.Goals as goal

pub returns : goal.returns
returns c =
    let a = c.args in
    let u = a.setup in record {
      value = judged-is a.bins.now u a.lists.now _ a.run _ c.unpack-answer.result _ _ c.list_at-list.ensures
          c.unpack-answer.ensures.value (c.unwrap_or-fit.ensures ∙ ap (result_unwrap_or c.unpack-answer.result) c.empty_fit.ensures)
          c.judge.ensures;
      table_unchanged = unpacked-stands a.bins.now u.scale u.window_end u.peak u.error u.genome _ a.run.cost
          a.run.iterations a.table.now _ c.unpack-answer.ensures.table_after;
    }
