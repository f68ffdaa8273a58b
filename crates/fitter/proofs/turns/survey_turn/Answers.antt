-- `fitter::turns::survey_turn` meets its contract. Assumes nothing.
use mathlib.Core.Path.{refl}
use lib.ListN.{length}
use Rattle.fitter.specs.Turns.{turned_of}
use Rattle.fitter.proofs.Turned.{first_on, first-settled}
use Rattle.fitter.proofs.turns.survey_turn.Goals as goal

pub returns-then-next-t : goal.returns-then-next-t
returns-then-next-t c =
    let a = c.args in record {
      value = first_on a.bins.now a.setup a.lists.now (length a.table.now) a.run (turned_of a.t) _ _
          c.list_length-wanted.ensures c.survey_run-survey.ensures c.if-next-t.true;
      table_unchanged = refl;
    }

pub returns : goal.returns
returns c =
    let a = c.args in record {
      value = first-settled a.bins.now a.setup a.lists.now (length a.table.now) a.run (turned_of a.t) _ _
          c.list_length-wanted.ensures c.survey_run-survey.ensures _ _ c.if-next-t.false
          c.settle-settled.ensures.value c.second_from.ensures;
      table_unchanged = c.settle-settled.ensures.table_unchanged;
    }
