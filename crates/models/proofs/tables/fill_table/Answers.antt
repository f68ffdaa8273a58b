-- `models::tables::fill_table` meets its contract. Assumes nothing.
use mathlib.Core.Path.{sym, ◌∙◌}
use Rattle.meaning.proofs.Overs.{over_none}
use Rattle.models.specs.Tables.{entries_in}
use Rattle.models.proofs.Filled.{filled-items, filled-table}
use Rattle.models.proofs.tables.fill_table.Goals as goal

pub returns-in-None : goal.returns-in-None
unfolding entries_in
returns-in-None c = record { value = rw c.in-None.is; table_after = rw c.in-None.is (sym (over_none _)) }

pub returns-in-Some : goal.returns-in-Some
returns-in-Some c =
    let a = c.args in
    let said = c.shelf_log_table.ensures in record {
      value =
          c.unwrap_or.ensures
          ∙ rw (← c.count.ensures) (filled-items a.mean _ a.table.now a.shelf _ c.in-Some.is _ said.result_value);
      table_after =
          rw (← c.count.ensures) (filled-table a.mean _ a.table.now a.shelf _ c.in-Some.is _ said.table_after);
    }
