-- `fitter::start_writers::StartPlan::write_table` meets its contract: each turn writes the next of the lists. Assumes nothing.
use Prim.Native.Nat.{◌*◌, ◌/◌}
use mathlib.Core.Path.{◌≡◌}
use lib.ListN.{length, drop}
use Rattle.std.specs.Slice.Iter.{chunks_exact_rest, chunks_exact_size}
use Rattle.fitter.specs.Starts.{table_starts}
use Rattle.fitter.proofs.Writing.{Writing}
use Rattle.fitter.proofs.start_writers.StartPlan.write_table.Given as goal

abbrev pub invariant-loop-row : goal.invariant-loop-row
invariant-loop-row l =
    let p = l.self in
    let table = p.table.now in
    let k = length l.yielded in
    record {
      written : Writing (table_starts p.error p.genome l.seed table p.share p.shapes.now) (length table / 3)
          l.initial.rest l.rest l.at k;
      left : drop (3 * k) table ≡ chunks_exact_rest l.row-iterator;
      size : chunks_exact_size l.row-iterator ≡ 3;
    }
