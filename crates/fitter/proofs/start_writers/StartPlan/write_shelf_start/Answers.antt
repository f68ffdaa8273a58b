-- `fitter::start_writers::StartPlan::write_shelf_start` meets its contract. Assumes nothing.
use Rattle.fitter.specs.Starts.{plain_start, shelf_list}
use Rattle.fitter.proofs.Joins.{puts-rest}
use Rattle.fitter.proofs.start_writers.StartPlan.write_shelf_start.Goals as goal

pub returns : goal.returns
returns c =
    let a = c.args in
    let w = c.write_plain-first in
    let v = c.write_shelf in
    puts-rest (plain_start a.self.now.error a.seed a.start) (shelf_list a.self.now.share a.shape) a.rest.now c.requires
    w.new.rest w.result w.ensures.0 w.ensures.1 v.new.rest v.result v.auto.rest v.ensures
