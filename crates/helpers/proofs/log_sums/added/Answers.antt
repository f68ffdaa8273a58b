-- `helpers::log_sums::added` meets its contract: what it leaves out changes nothing. Assumes nothing.
use lib.Ieee.{neg, of_bits}
use Rattle.routines.proofs.Tests.{yes}
use Rattle.helpers.proofs.Weights.{absorbs}
use Rattle.helpers.proofs.log_sums.added.Goals as goal

pub returns-then-d : goal.returns-then-d
unfolding neg of_bits
returns-then-d c = absorbs _ _ (yes c.well_formed.0.1) (yes c.well_formed.1.0.1) c.if-d.true c.requires
