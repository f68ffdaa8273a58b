-- `helpers::log_sums::beside_one` meets its contract: what it leaves out changes nothing. Assumes nothing.
use lib.Ieee.{neg, of_bits}
use Rattle.routines.proofs.Tests.{yes}
use Rattle.helpers.proofs.Weights.{absorbs-two}
use Rattle.helpers.proofs.log_sums.beside_one.Goals as goal

pub returns-then-y : goal.returns-then-y
unfolding neg of_bits
returns-then-y c = absorbs-two _ _ (yes c.well_formed.0.1) (yes c.well_formed.1.0.1) c.if-x.true c.if-y.true
