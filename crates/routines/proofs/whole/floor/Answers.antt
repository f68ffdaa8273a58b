-- `routines::whole::floor` meets its contract: `Ranges` says what the tests tell of x in each arm.
-- Assumes nothing.
use Rattle.std.proofs.Common.{ℕ, false, ap, ◌∙◌}
use lib.Ieee.{neg, binary64, round}
use Rattle.routines.proofs.Tests.{yes}
use Rattle.routines.proofs.Sizes.{cut_small, of_int_is}
use Rattle.routines.proofs.Ranges.{small, small-neg, floor-small-is, floor-neg-is, floor-keeps, wide_up, wide-down, level}
use Rattle.routines.proofs.whole.floor.Goals as goal
use Rattle.routines.proofs.whole.floor.Goals.{else-x-via-then-x+else-x-2, else-x-via-else-x}
use Rattle.routines.proofs.whole.floor.Goals.{else-x-3-via-then-x-3+else-x-4, else-x-3-via-else-x-3}

pub truncating_f64_to_u64-requires : goal.truncating_f64_to_u64-requires
truncating_f64_to_u64-requires c =
    let s = small c.args.x c.if-x.true c.if-x-2.true in
    let k = cut_small c.args.x s.0 s.1 in
    record { lower_bound = k.0; upper_bound = k.1 }

pub ceil_small-requires : goal.ceil_small-requires
ceil_small-requires c =
    let s = small-neg c.args.x c.if-x-3.true c.if-x-4.true in record { fact_1 = s.0; fact_2 = s.1 }

pub returns-then-x-2 : goal.returns-then-x-2
returns-then-x-2 c =
    let x = c.args.x in
    let s = small x c.if-x.true c.if-x-2.true in
    c.nearest_u64_to_f64.ensures
    ∙ of_int_is _
    ∙ ap (λ (n : ℕ). round binary64 false n 1) (c.truncating_f64_to_u64.ensures ∙ (cut_small x s.0 s.1).2)
    ∙ floor-small-is x s.0

pub returns-then-x-4 : goal.returns-then-x-4
returns-then-x-4 c =
    ap neg c.ceil_small.ensures ∙ floor-neg-is c.args.x (small-neg c.args.x c.if-x-3.true c.if-x-4.true).0

-- the last arm, reached by either test of each `&&` that failed
pub returns-else-x-3 : goal.returns-else-x-3
returns-else-x-3 c =
    let x = c.args.x in
    floor-keeps (yes c.well_formed.0.1)
    (elim c.else-x-3.branch [
      | else-x-3-via-then-x-3+else-x-4 w ↦ wide-down x w.if-x-3.true w.if-x-4.false
      | else-x-3-via-else-x-3 n ↦ (elim c.else-x.branch [
        | else-x-via-then-x+else-x-2 w ↦ wide_up x w.if-x.true w.if-x-2.false
        | else-x-via-else-x p ↦ level x p.if-x.false n.if-x-3.false
      ])
    ])
