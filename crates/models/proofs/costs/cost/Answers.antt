-- `models::costs::cost` meets its contract. Assumes nothing.
use mathlib.Core.Path.{refl, ◌∙◌}
use native.Mathlib.Omega.{arith}
use Rattle.meaning.proofs.Says.{handed_on, refusal_numbered}
use Rattle.models.proofs.Passed.{came-refused, came-given, cost-refused, cost-given, refused-table, given-table}
use Rattle.models.proofs.ReadyCost.{cost-unprepared}
use Rattle.models.proofs.costs.cost.Goals as goal

pub returns-in_err-end : goal.returns-in_err-end
returns-in_err-end c =
    let a = c.args in
    let first = came-refused a.bins.now a.scale a.window_end a.peak a.error a.genome a.theta.now _ _
    c.in_err-end.ensures in
    let some = refusal_numbered c.in_err-end.field-0.0 in record {
      result_value =
          handed_on _ _ c.from_residual.ensures.1
          ∙ cost-refused a.bins.now a.scale a.window_end a.peak a.error a.genome a.theta.now _ _ first some;
      table_after =
          refused-table a.bins.now a.scale a.window_end a.peak a.error a.genome a.theta.now a.table.now _ first some;
    }

pub overflow_cast-peak : goal.overflow_cast-peak
overflow_cast-peak c =
    let a = c.args in
    let gave = came-given a.bins.now a.scale a.window_end a.peak a.error a.genome a.theta.now _ _ c.in_ok-end.ensures in
    omega (arith, gave.2.peak-few)

pub returns : goal.returns
returns c =
    let a = c.args in
    let gave = came-given a.bins.now a.scale a.window_end a.peak a.error a.genome a.theta.now _ _ c.in_ok-end.ensures in
    let value = c.cost_at.ensures.value
    ∙ cost-unprepared a.bins.now _ _ _ _ (omega (arith, gave.1, gave.2.end-few)) in record {
      result_value =
          cost-given a.bins.now a.scale a.window_end a.peak a.error a.genome a.theta.now _ 0 gave.0
          _ _ _ _ refl gave.1 c.used_scale-used.ensures c.decode-p.ensures value;
      table_after =
          given-table a.bins.now a.scale a.window_end a.peak a.error a.genome a.theta.now
          a.table.now 0 gave.0 _ _ _ refl gave.1 c.decode-p.ensures c.cost_at.ensures.table_after;
    }
