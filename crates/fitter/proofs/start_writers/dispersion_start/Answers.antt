-- `fitter::start_writers::dispersion_start` meets its contract. Assumes nothing.
use lib.Ieee.{round, of_bits}
use Rattle.fitter.specs.Starts.{dispersion_start}
use Rattle.fitter.proofs.start_writers.dispersion_start.Goals as goal

pub returns : goal.returns
unfolding dispersion_start round of_bits
returns c = rw (c.ln.ensures, c.max.ensures)
