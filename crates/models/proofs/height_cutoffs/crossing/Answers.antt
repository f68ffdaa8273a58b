-- `models::height_cutoffs::crossing` meets its contract. The invariant: what is left of the search, from the count on,
-- is the whole of it; and the survival that the loop carries is that of its count. Assumes nothing.
use mathlib.Core.Path.{sym, ap, ◌∙◌}
use Rattle.std.specs.Prelude.{Some}
use Prim.Native.Nat.{◌≤◌}
use native.Mathlib.Omega.{arith}
use Rattle.models.proofs.Survivals.{first-survival, next-survival, error-from-is}
use Rattle.models.proofs.HeightCutoffs.{crossing-starts, crossing-ends, crossing-hits, crossing-goes, outgrows-is}
use Rattle.models.proofs.height_cutoffs.crossing.Goals as goal

pub loop-count-init : goal.loop-count-init
loop-count-init c = (first-survival _ _ c.log_survival_from_two-here.ensures, crossing-starts _ _)

pub returns-then-single_height-error : goal.returns-then-single_height-error
returns-then-single_height-error c =
    let t = c.args.t in
    let turn = c.loop-count in
    let few : turn.count ≤ 65535 = omega (arith, c.ranges) in
    let survives = next-survival turn.count few _ _ _ c.survival_with-next.ensures c.ln.ensures in
    let error = c.error_height_from-error.ensures ∙ error-from-is turn.count few _ _ t turn.invariant.0 survives in
    sym
    (turn.invariant.1
    ∙ crossing-hits _ _ turn.count (omega arith)
    (outgrows-is t turn.count _ _ _ error c.single_height.ensures c.if-single_height-error.true)
    ∙ ap Some (sym c.at_least_two.ensures))

pub loop-count-preserved : goal.loop-count-preserved
loop-count-preserved c =
    let t = c.args.t in
    let turn = c.loop-count in
    let few : turn.count ≤ 65535 = omega (arith, c.ranges) in
    let survives = next-survival turn.count few _ _ _ c.survival_with-next.ensures c.ln.ensures in
    let error = c.error_height_from-error.ensures ∙ error-from-is turn.count few _ _ t turn.invariant.0 survives in (
      survives,
      turn.invariant.1
          ∙ crossing-goes _ _ turn.count (omega arith)
          (outgrows-is t turn.count _ _ _ error c.single_height.ensures c.if-single_height-error.false),
    )

pub returns : goal.returns
returns c =
    let turn = c.loop-count in
    sym (turn.invariant.1 ∙ crossing-ends _ _ turn.count (omega arith))
