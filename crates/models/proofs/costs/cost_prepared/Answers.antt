-- `models::costs::cost_prepared` meets its contract. Assumes nothing.
use mathlib.Core.Path.{refl, ◌∙◌}
use native.Mathlib.Omega.{arith}
use lib.ListN.{length}
use Rattle.meaning.proofs.Says.{handed_on, refusal_numbered}
use Rattle.models.proofs.Passed.{came-refused, came-given}
use Rattle.models.proofs.ReadyCost.{prepared-refused, prepared-short, prepared-given, prepared-kept, prepared-table}
use Rattle.models.proofs.costs.cost_prepared.Goals as goal

pub returns-in_err-end : goal.returns-in_err-end
returns-in_err-end c =
    let a = c.args in
    let first = came-refused a.bins.now a.scale a.window_end a.peak a.error a.genome a.theta.now _ _
    c.in_err-end.ensures in
    let answer = prepared-refused a.bins.now a.scale a.window_end a.peak a.error a.genome a.theta.now
    a.ready.now (length a.table.now) _ first (refusal_numbered c.in_err-end.field-0.0) in
    record {
      result_value = handed_on _ _ c.from_residual.ensures.1 ∙ answer;
      table_after =
          prepared-kept a.bins.now a.scale a.window_end a.peak a.error a.genome a.theta.now a.ready.now
          a.table.now _ answer;
    }

pub overflow_add-window_end : goal.overflow_add-window_end
overflow_add-window_end c =
    let a = c.args in
    let gave = came-given a.bins.now a.scale a.window_end a.peak a.error a.genome a.theta.now _ _ c.in_ok-end.ensures in
    omega (arith, gave.2.end-few)

pub overflow_mul-window_end : goal.overflow_mul-window_end
overflow_mul-window_end c =
    let a = c.args in
    let gave = came-given a.bins.now a.scale a.window_end a.peak a.error a.genome a.theta.now _ _ c.in_ok-end.ensures in
    omega (arith, gave.2.end-few)

pub returns-then-ready-window_end : goal.returns-then-ready-window_end
returns-then-ready-window_end c =
    let a = c.args in
    let gave = came-given a.bins.now a.scale a.window_end a.peak a.error a.genome a.theta.now _ _ c.in_ok-end.ensures in
    let answer = prepared-short a.bins.now a.scale a.window_end a.peak a.error a.genome a.theta.now
    a.ready.now (length a.table.now) 0 gave.0 refl c.if-ready-window_end.true in record {
      result_value = answer;
      table_after =
          prepared-kept a.bins.now a.scale a.window_end a.peak a.error a.genome a.theta.now a.ready.now
          a.table.now 10 answer;
    }

pub overflow_cast-peak : goal.overflow_cast-peak
overflow_cast-peak c =
    let a = c.args in
    let gave = came-given a.bins.now a.scale a.window_end a.peak a.error a.genome a.theta.now _ _ c.in_ok-end.ensures in
    omega (arith, gave.2.peak-few)

pub returns : goal.returns
returns c =
    let a = c.args in
    let gave = came-given a.bins.now a.scale a.window_end a.peak a.error a.genome a.theta.now _ _ c.in_ok-end.ensures in
    let answer = prepared-given a.bins.now a.scale a.window_end a.peak a.error a.genome a.theta.now
    a.ready.now (length a.table.now) 0 gave.0 _ _ _ _ refl c.if-ready-window_end.false gave.1 c.used_scale-used.ensures
    c.decode-p.ensures c.cost_at.ensures.value in record {
      result_value = answer;
      table_after =
          prepared-table a.bins.now a.scale a.window_end a.peak a.error a.genome a.theta.now a.ready.now
          a.table.now 0 gave.0 _ _ _ _ refl answer gave.1 c.decode-p.ensures c.cost_at.ensures.table_after;
    }
