-- `fitter::start_writers::ratio_start` meets its contract. Assumes nothing.
use lib.Ieee.{round, of_bits}
use Rattle.fitter.specs.Starts.{ratio_start}
use Rattle.fitter.proofs.start_writers.ratio_start.Goals as goal

pub returns : goal.returns
unfolding ratio_start round of_bits
returns c = c.logit.ensures
