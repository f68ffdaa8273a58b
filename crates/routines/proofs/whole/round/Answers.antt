-- `routines::whole::round` meets its contract: `Ranges` says what the tests tell of x in each arm.
-- Assumes nothing.
use Rattle.std.proofs.Common.{ap, ◌∙◌}
use lib.Ieee.{neg}
use Rattle.routines.proofs.Tests.{yes}
use Rattle.routines.proofs.Ranges.{small, small-neg, round-small-is, round-neg-is, round_keeps, wide_up}
use Rattle.routines.proofs.Ranges.{wide-down, level}
use Rattle.routines.proofs.whole.round.Goals as goal
use Rattle.routines.proofs.whole.round.Goals.{else-x-via-then-x+else-x-2, else-x-via-else-x}
use Rattle.routines.proofs.whole.round.Goals.{else-x-3-via-then-x-3+else-x-4, else-x-3-via-else-x-3}

pub round_small-requires : goal.round_small-requires
round_small-requires c =
    let held = small c.args.x c.if-x.true c.if-x-2.true in record { fact_1 = held.0; fact_2 = held.1 }

pub round_small-requires-then-x-4 : goal.round_small-requires-then-x-4
round_small-requires-then-x-4 c =
    let held = small-neg c.args.x c.if-x-3.true c.if-x-4.true in record { fact_1 = held.0; fact_2 = held.1 }

pub returns-then-x-2 : goal.returns-then-x-2
returns-then-x-2 c =
    c.round_small.ensures
    ∙ round-small-is c.args.x (small c.args.x c.if-x.true c.if-x-2.true).0

pub returns-then-x-4 : goal.returns-then-x-4
returns-then-x-4 c =
    ap neg c.round_small-then-x-4.ensures
    ∙ round-neg-is c.args.x (small-neg c.args.x c.if-x-3.true c.if-x-4.true).0

-- the last arm, reached by either test of each `&&` that failed
pub returns-else-x-3 : goal.returns-else-x-3
returns-else-x-3 c =
    let x = c.args.x in
    round_keeps (yes c.well_formed.0.1)
    (elim c.else-x-3.branch [
      | else-x-3-via-then-x-3+else-x-4 w ↦ wide-down x w.if-x-3.true w.if-x-4.false
      | else-x-3-via-else-x-3 n ↦ (elim c.else-x.branch [
        | else-x-via-then-x+else-x-2 w ↦ wide_up x w.if-x.true w.if-x-2.false
        | else-x-via-else-x p ↦ level x p.if-x.false n.if-x-3.false
      ])
    ])
