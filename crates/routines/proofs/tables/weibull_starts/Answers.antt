-- `routines::tables::weibull_starts` meets its contract. Assumes nothing.
use Rattle.std.proofs.Common.{refl}
use lib.Ieee.{of_bits, round}
use Rattle.routines.specs.Starts.{weibull_starts}
use Rattle.routines.proofs.tables.weibull_starts.Goals as goal

pub returns : goal.returns
unfolding weibull_starts of_bits round
returns c = refl
