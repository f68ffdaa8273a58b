-- `helpers::shelves::shelf_log_table` meets its contract. Assumes nothing.
use Prim.Native.Nat.{suc, ◌+◌}
use mathlib.Core.Path.{◌∙◌}
use native.Mathlib.Numerals.{add-one}
use native.Mathlib.Omega.{arith}
use borrow.Author.Tests.{lt-ltb, le-ltb}
use lib.ListN.{length}
use Rattle.meaning.specs.Reply.{refuse, give}
use Rattle.meaning.proofs.Says.{handed_on}
use Rattle.helpers.proofs.Tables.{table-refused, table-given, table-unwindowed, table-behind}
use Rattle.helpers.proofs.WindowEnds.{window_count}
use Rattle.helpers.proofs.shelves.shelf_log_table.Goals as goal

pub returns-in_err-end : goal.returns-in_err-end
returns-in_err-end c =
    let said = table-unwindowed c.args.mean _ (length c.args.table.now) _ c.in_err-end.ensures in
    record { result_value = handed_on _ _ c.from_residual.ensures.1 ∙ said; table_after = table-refused _ _ _ _ _ said }

pub returns-then-table-last : goal.returns-then-table-last
returns-then-table-last c =
    let room = length c.args.table.now in
    let last = c.last_entry-last.result in
    let said =
    table-behind c.args.mean c.args.top room _ last _ (refuse 10) c.in_ok-end.ensures c.shelf_trials-trials.ensures
    c.last_entry-last.ensures (simp (lt-ltb room (suc last) (omega (arith, c.if-table-last.true)))) in
    record { result_value = said; table_after = table-refused _ _ _ _ _ said }

pub returns : goal.returns
returns c =
    let room = length c.args.table.now in
    let last = c.last_entry-last.result in
    let said =
    table-behind c.args.mean c.args.top room _ last _ (give (last + 1)) c.in_ok-end.ensures c.shelf_trials-trials.ensures
    c.last_entry-last.ensures (simp (le-ltb room (suc last) (omega (arith, c.if-table-last.false)), add-one)) in
    record {
      result_value = said;
      table_after =
          c.write_table.ensures
          ∙ rw (c.last_entry-last.ensures, c.shelf_trials-trials.ensures, window_count _ _ c.in_ok-end.ensures)
          (table-given _ _ _ _ _ said);
    }
