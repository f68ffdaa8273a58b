-- `fitter::run_table::attempt_from` meets its contract: what holds from turn to turn is `Turning`. Assumes nothing.
use Rattle.std.proofs.Common.{◌≡◌, length}
use Rattle.fitter.specs.Columns.{run_in}
use Rattle.fitter.specs.Turns.{turned_of}
use Rattle.fitter.proofs.Turned.{Turning, left}
use Rattle.fitter.proofs.run_table.attempt_from.Given as goal

abbrev pub invariant-loop-t : goal.invariant-loop-t
invariant-loop-t l = record {
  room : length l.table ≡ length l.initial.table;
  turning : Turning l.bins l.setup l.lists (length l.initial.table) (run_in l.runs) (length l.runs) l.initial.table (turned_of l.t) l.table;
}

abbrev pub decreases-loop-t : goal.decreases-loop-t
decreases-loop-t l = left l.bins l.setup l.lists (length l.initial.table) (run_in l.runs) (length l.runs) l.initial.table (turned_of l.t)
