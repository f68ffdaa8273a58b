-- `models::costs::cost_at` meets its contract. Assumes nothing.
use mathlib.Core.Path.{sym, ◌∙◌}
use lib.Ieee.{div, of_bits}
use lib.ListN.{length}
use Rattle.models.specs.Tables.{entries_in}
use Rattle.models.proofs.Costed.{params-stop, mode-stops, starts, stopped-cost, stopped-table, started-cost}
use Rattle.models.proofs.Costed.{started-table}
use Rattle.models.proofs.Filled.{front-is, front-room, entries-few}
use Rattle.models.proofs.costs.cost_at.Goals as goal

pub returns-then-not-params_usable : goal.returns-then-not-params_usable
unfolding div of_bits
returns-then-not-params_usable c =
    let stop = params-stop _ (sym c.params_usable.ensures ∙ c.if-not-params_usable.true) in
    record { value = stopped-cost _ _ _ _ _ _ stop; table_after = stopped-table _ _ _ stop }

pub returns-then-not-mode_held : goal.returns-then-not-mode_held
unfolding div of_bits
returns-then-not-mode_held c =
    let usable = sym c.params_usable.ensures ∙ c.if-not-params_usable.false in
    let stop = mode-stops _ usable (sym c.mode_held.ensures ∙ c.if-not-mode_held.true) in
    record { value = stopped-cost _ _ _ _ _ _ stop; table_after = stopped-table _ _ _ stop }

pub slice_bounds-evaluate-end : goal.slice_bounds-evaluate-end
slice_bounds-evaluate-end c =
    let a = c.args in
    let fill = c.fill_table-items.ensures in
    front-room (entries_in a.p.shelf a.p.mean a.end.count (length a.table.now)) a.table.now _ _ fill.value
    fill.table_after (entries-few a.p.shelf a.p.mean a.end.count (length a.table.now))

pub returns : goal.returns
returns c =
    let a = c.args in
    let fill = c.fill_table-items.ensures in
    let entries = entries_in a.p.shelf a.p.mean a.end.count (length a.table.now) in
    let usable = sym c.params_usable.ensures ∙ c.if-not-params_usable.false in
    let go = starts _ usable (sym c.mode_held.ensures ∙ c.if-not-mode_held.false) in
    record {
      value =
          started-cost _ _ _ _ _ _ _ _ go c.evaluate.ensures
          (front-is entries a.table.now _ _ fill.value fill.table_after);
      table_after = started-table _ _ _ _ go fill.table_after;
    }
