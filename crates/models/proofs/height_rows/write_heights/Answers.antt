-- `models::height_rows::write_heights` meets its contract. Assumes nothing.
use mathlib.Core.Path.{refl, sym, ◌∙◌}
use Prim.Native.Nat.{◌+◌, ◌≤◌}
use native.Mathlib.Omega.{arith}
use lib.ListN.{length-set}
use Rattle.meaning.proofs.Overs.{over_none}
use Rattle.models.specs.Heights.{height_rows}
use Rattle.models.proofs.HeightRows.{rows_more}
use Rattle.models.proofs.Survivals.{first-survival, first-log, with-log, next-survival, heights-from-is}
use Rattle.models.proofs.height_rows.write_heights.Invariants.{heights-in}
use Rattle.models.proofs.height_rows.write_heights.Goals as goal

pub loop-i-init : goal.loop-i-init
unfolding height_rows
loop-i-init c =
    record {
      upto = omega arith;
      params = refl;
      lengths = refl;
      room = c.requires;
      logged = first-log _ c.ln-log.ensures;
      survives = first-survival _ _ c.log_survival_from_two-here.ensures;
      rows = sym (over_none _);
    }

pub loop-i-preserved : goal.loop-i-preserved
loop-i-preserved c =
    let turn = c.loop-i in
    let so = turn.invariant in
    let few : turn.i + 1 ≤ 65535 = omega (arith, c.loop-i-test.true, c.ranges) in
    let survival = next-survival (turn.i + 1) few _ _ _ c.survival_with-next.ensures so.logged in
    record {
      upto = omega arith;
      params = so.params;
      lengths = simp length-set so.lengths;
      room = so.room;
      logged = c.ln-after.ensures;
      survives = survival;
      rows =
          rows_more (heights-in _) turn.i _ _ _ so.rows (omega arith)
          (c.heights_from-h.ensures
          ∙ heights-from-is (turn.i + 1) few _ _ _ so.survives survival _
          (c.lgamma_with-gamma.ensures ∙ with-log _ _ c.ln-after.ensures));
    }
