-- `fitter::start_writers::StartPlan::write_starts` meets its contract: each turn writes the next of the lists. Assumes nothing.
use mathlib.Core.List.{[], ◌∷◌, ◌++◌}
use lib.ListN.{length}
use Rattle.fitter.specs.Starts.{seed_starts}
use Rattle.fitter.proofs.Writing.{Writing}
use Rattle.fitter.proofs.start_writers.StartPlan.write_starts.Given as goal

abbrev pub invariant-loop-seed : goal.invariant-loop-seed
invariant-loop-seed l =
    let p = l.self in
    Writing (seed_starts p.error p.genome (l.seeds ++ (l.hint ∷ [])) p.table.now p.share p.shapes.now)
    (length (l.seeds ++ (l.hint ∷ []))) l.initial.rest l.rest l.at l.seed-index
