-- `fitter::settling::no_held` meets its contract. Assumes nothing.
use Rattle.fitter.specs.Settling.{no_held}
use Rattle.fitter.proofs.settling.no_held.Goals as goal

pub returns : goal.returns
unfolding no_held
returns c = rw (c.no_run.ensures, c.empty_fit.ensures)
