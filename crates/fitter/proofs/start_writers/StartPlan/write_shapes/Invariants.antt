-- `fitter::start_writers::StartPlan::write_shapes` meets its contract: each turn writes the next of the lists. Assumes nothing.
use Prim.Native.Nat.{◌*◌, ◌/◌}
use mathlib.Core.Path.{◌≡◌}
use lib.ListN.{length, drop}
use Rattle.std.specs.Slice.Iter.{chunks_exact_rest, chunks_exact_size}
use Rattle.fitter.specs.Starts.{shelf_start}
use Rattle.fitter.proofs.Writing.{Writing}
use Rattle.fitter.proofs.start_writers.StartPlan.write_shapes.Given as goal

abbrev pub invariant-loop-pair : goal.invariant-loop-pair
invariant-loop-pair l =
    let shapes = l.self.shapes.now in
    let k = length l.yielded in
    record {
      written : Writing (shelf_start l.self.error l.seed l.start l.self.share shapes) (length shapes / 2) l.initial.rest l.rest l.at k;
      left : drop (2 * k) shapes ≡ chunks_exact_rest l.pair-iterator;
      size : chunks_exact_size l.pair-iterator ≡ 2;
    }
