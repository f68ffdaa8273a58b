-- `models::unpacking::unpack` meets its contract: the refusals, then the fit of what each call answered. Assumes
-- nothing.
use mathlib.Core.Path.{refl, ◌∙◌}
use native.Mathlib.Omega.{arith}
use lib.ListN.{length}
use Rattle.meaning.proofs.Says.{handed_on, refusal_numbered}
use Rattle.models.specs.Tables.{entries_in}
use Rattle.models.proofs.Filled.{front-is, front-room, entries-few}
use Rattle.models.proofs.Passed.{came-refused, came-given}
use Rattle.models.proofs.Unpacked.{unpack-refused, refused-table, unpack-given, given-table}
use Rattle.models.proofs.unpacking.unpack.Goals as goal

pub returns-in_err-end : goal.returns-in_err-end
returns-in_err-end c =
    let a = c.args in
    let first = came-refused a.bins.now a.scale a.window_end a.peak a.error a.genome a.theta.now _ _
    c.in_err-end.ensures in
    let some = refusal_numbered c.in_err-end.field-0.0 in record {
      value =
          handed_on _ _ c.from_residual.ensures.1
          ∙ unpack-refused a.bins.now a.scale a.window_end a.peak a.error a.genome a.theta.now
          a.table.now _ first a.cost a.iterations some;
      table_after =
          refused-table a.bins.now a.scale a.window_end a.peak a.error a.genome a.theta.now
          a.table.now _ first a.cost a.iterations some;
    }

pub overflow_cast-peak : goal.overflow_cast-peak
overflow_cast-peak c =
    let a = c.args in
    let gave = came-given a.bins.now a.scale a.window_end a.peak a.error a.genome a.theta.now _ _ c.in_ok-end.ensures in
    omega (arith, gave.2.peak-few)

pub slice_bounds-masses_of-end : goal.slice_bounds-masses_of-end
slice_bounds-masses_of-end c =
    let held = c.args.table.now in
    let p = c.decode-p.result in
    let fill = c.fill_table-items.ensures in
    front-room (entries_in p.shelf p.mean _ (length held)) held _ _ fill.value fill.table_after
    (entries-few p.shelf p.mean _ (length held))

pub returns : goal.returns
returns c =
    let a = c.args in
    let held = a.table.now in
    let p = c.decode-p.result in
    let fill = c.fill_table-items.ensures in
    let front = front-is (entries_in p.shelf p.mean _ (length held)) held _ _ fill.value fill.table_after in
    let gave = came-given a.bins.now a.scale a.window_end a.peak a.error a.genome a.theta.now _ _ c.in_ok-end.ensures in
    record {
      value =
          unpack-given a.bins.now a.scale a.window_end a.peak a.error a.genome a.theta.now held 0 gave.0 a.cost
          a.iterations refl _ _ gave.1 (c.count.ensures ∙ gave.1) _ c.window_of-window.ensures _ c.decode-p.ensures
          _ _ front _ c.masses_of-m.ensures c.fit_of.ensures;
      table_after =
          given-table a.bins.now a.scale a.window_end a.peak a.error a.genome a.theta.now held 0 gave.0 a.cost
          a.iterations refl _ _ gave.1 (c.count.ensures ∙ gave.1) _ c.window_of-window.ensures _ c.decode-p.ensures
          _ _ front _ c.masses_of-m.ensures c.fit_of.ensures _ fill.table_after;
    }
