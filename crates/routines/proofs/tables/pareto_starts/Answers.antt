-- `routines::tables::pareto_starts` meets its contract. Assumes nothing.
use Rattle.std.proofs.Common.{refl}
use lib.Ieee.{of_bits, round}
use Rattle.routines.specs.Starts.{pareto_starts}
use Rattle.routines.proofs.tables.pareto_starts.Goals as goal

pub returns : goal.returns
unfolding pareto_starts of_bits round
returns c = refl
