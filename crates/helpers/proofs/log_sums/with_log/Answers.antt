-- `helpers::log_sums::with_log` meets its contract. Assumes nothing.
use Rattle.routines.proofs.Tests.{yes}
use Rattle.helpers.proofs.Weights.{log-of-one}
use Rattle.helpers.proofs.log_sums.with_log.Goals as goal

pub returns-then-s : goal.returns-then-s
returns-then-s c = log-of-one _ _ (yes c.well_formed.1.0.1) c.if-s.true
