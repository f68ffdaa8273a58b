-- `histogram::writer::file_size` meets its contract: what is counted, and what is left to count, make up the whole.
-- Assumes nothing.
use Prim.Native.Nat.{◌+◌, ◌*◌, ◌≤◌}
use mathlib.Core.Path.{◌≡◌}
use lib.ListN.{length, drop}
use Rattle.histogram.specs.Number.{numbers_bytes}
use Rattle.histogram.specs.File.{write_of}
use Rattle.histogram.proofs.writer.file_size.Given as goal

abbrev pub invariant-loop-bin : goal.invariant-loop-bin
invariant-loop-bin l =
    (l.size ≤ 11 + 10 * l.bin-index) × (l.size + length (numbers_bytes (drop l.bin-index l.bins)) ≡ length (write_of l.bins))
