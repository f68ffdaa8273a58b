-- `search::reporting::least_row` meets its contract. Assumes nothing.
use mathlib.Core.Path.{refl, sym, ◌∙◌}
use mathlib.Core.Bool.{true, false}
use native.Mathlib.Omega.{arith}
use Rattle.meaning.proofs.Loops.{begins, goes_on, ends}
use Rattle.search.proofs.Reported.{least-is, chosen}
use Rattle.search.proofs.reporting.least_row.Goals as goal
use Rattle.search.proofs.reporting.least_row.Goals.{then-rows-i, else-rows-i}

pub loop-i-init : goal.loop-i-init
loop-i-init c = (begins _ _ _ _ _ (omega arith) refl, omega arith)

pub loop-i-preserved : goal.loop-i-preserved
loop-i-preserved c =
    elim c.if-rows-i.branch [
      | then-rows-i w ↦ (
        goes_on _ _ _ _ c.loop-i.invariant.0 _ (omega arith)
            (w.least-is ∙ chosen c.args.w c.args.rows.now c.requires.0 c.loop-i.i c.loop-i.least (omega arith) c.loop-i.invariant.1 true w.if-rows-i.true),
        omega (arith, w.least-is),
      )
      | else-rows-i w ↦ (
        goes_on _ _ _ _ c.loop-i.invariant.0 _ (omega arith)
            (w.least-is ∙ chosen c.args.w c.args.rows.now c.requires.0 c.loop-i.i c.loop-i.least (omega arith) c.loop-i.invariant.1 false w.if-rows-i.false),
        omega (arith, w.least-is),
      )
    ]

pub returns : goal.returns
returns c = ends _ _ _ _ c.loop-i.invariant.0 (omega arith) ∙ sym (least-is c.args.w c.args.rows.now)
