-- `fitter::turns::turn` meets its contract. Assumes nothing.
use mathlib.Core.Path.{◌∙◌, ap}
use lib.ListN.{length}
use Rattle.fitter.specs.Turns.{turn_of, turned_of}
use Rattle.fitter.specs.declared.runs.Run.{Run}
use Rattle.fitter.proofs.Turned.{turn-first, turn-second}
use Rattle.fitter.proofs.turns.turn.Goals as goal

pub returns-then-t : goal.returns-then-t
returns-then-t c =
    let run = c.from-run in
    let a = c.args in
    let room = length a.table.now in record {
      value = c.retry_turn.ensures.value
          ∙ turn-second a.bins.now a.setup a.lists.now room run.result (turned_of a.t) c.if-t.true
          ∙ ap (λ (x : Run). turn_of a.bins.now a.setup a.lists.now room x (turned_of a.t)) run.ensures;
      table_unchanged = rw c.if-t.true c.retry_turn.ensures.table_unchanged;
    }

pub returns : goal.returns
returns c =
    let run = c.from-run in
    let a = c.args in
    let room = length a.table.now in record {
      value = c.survey_turn.ensures.value
          ∙ turn-first a.bins.now a.setup a.lists.now room run.result (turned_of a.t) c.if-t.false
          ∙ ap (λ (x : Run). turn_of a.bins.now a.setup a.lists.now room x (turned_of a.t)) run.ensures;
      table_unchanged = rw c.if-t.false c.survey_turn.ensures.table_unchanged;
    }
