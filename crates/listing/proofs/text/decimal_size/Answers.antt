-- `listing::text::decimal_size` meets its contract: the digits counted, and those of what is left, make up the whole.
-- Assumes nothing.
use mathlib.Core.Path.{ap}
use native.Mathlib.Omega.{arith}
use lib.ListN.{length}
use Rattle.listing.proofs.Decimals.{digits-one, longer, twenty}
use Rattle.listing.proofs.text.decimal_size.Goals as goal

pub overflow_add-size : goal.overflow_add-size
overflow_add-size c = omega (arith, twenty c.args.n c.well_formed.0.1)

pub loop-left-preserved : goal.loop-left-preserved
loop-left-preserved c = let e = longer c.loop-left.left c.loop-left-test.true in omega arith

pub returns : goal.returns
returns c = let e = ap length (digits-one c.loop-left.left c.loop-left-test.false) in omega arith
