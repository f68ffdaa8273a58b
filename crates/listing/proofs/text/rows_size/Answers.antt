-- `listing::text::rows_size` meets its contract: what is counted, and what is left to count, make up the whole.
-- Assumes nothing.
use Prim.Native.Nat.{◌+◌}
use mathlib.Core.Path.{ap}
use native.Mathlib.Omega.{arith}
use lib.ListN.{length}
use Rattle.listing.proofs.Lines.{row-few, size-turn, no-rows-left}
use Rattle.listing.proofs.text.rows_size.Goals as goal

pub overflow_add-size : goal.overflow_add-size
overflow_add-size c = omega (arith, row-few (c.loop-i.i + 1) c.from.result (omega arith) (omega arith))

pub loop-i-preserved : goal.loop-i-preserved
loop-i-preserved c =
    let few = row-few (c.loop-i.i + 1) c.from.result (omega arith) (omega arith) in
    let turn = size-turn c.args.bins.now c.loop-i.i c.from.result c.loop-i-test.true c.from.ensures in
    (omega arith, omega arith)

pub returns : goal.returns
returns c =
    let e = ap length (no-rows-left c.args.bins.now c.loop-i.i c.loop-i-test.false) in omega arith
