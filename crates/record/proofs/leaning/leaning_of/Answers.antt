-- `record::leaning::leaning_of` meets its contract. Assumes nothing.
use native.Mathlib.Numerals.{add-one}
use native.Mathlib.Omega.{arith}
use Rattle.record.proofs.Leanings.{leans, leant}
use Rattle.record.proofs.leaning.leaning_of.Goals as goal

pub loop-attempt-init : goal.loop-attempt-init
loop-attempt-init c = record { said = cc; few = (omega arith, omega arith) }

pub lean-l-requires : goal.lean-l-requires
lean-l-requires c =
    let f = c.loop-attempt.invariant.few in
    (omega (arith, f.0, c.loop-attempt-test.true), omega (arith, f.1, c.loop-attempt-test.true))

pub loop-attempt-preserved : goal.loop-attempt-preserved
loop-attempt-preserved c =
    let l = c.loop-attempt in
    let p = leans _ _ c.args.attempts l.l _ l.attempt-index _ (omega arith) c.lean-l.ensures l.invariant in
    rw (add-one l.attempt-index) p

pub returns : goal.returns
returns c = leant _ _ c.args.attempts _ _ (omega arith) c.loop-attempt.invariant
