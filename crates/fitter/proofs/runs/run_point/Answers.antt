-- `fitter::runs::run_point` meets its contract. Assumes nothing.
use Rattle.fitter.proofs.runs.run_point.Goals as goal

pub returns-then-run : goal.returns-then-run
returns-then-run c = rw c.if-run.true

pub returns : goal.returns
returns c = rw c.if-run.false
