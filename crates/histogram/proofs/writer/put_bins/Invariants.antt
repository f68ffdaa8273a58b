-- `histogram::writer::put_bins` meets its contract: at each turn the bytes still to come are those of the bins left.
-- Assumes nothing.
use lib.ListN.{drop}
use Rattle.histogram.specs.Number.{numbers_bytes}
use Rattle.histogram.proofs.Puts.{Putting}
use Rattle.histogram.proofs.writer.put_bins.Given as goal

abbrev pub invariant-loop-bin : goal.invariant-loop-bin
invariant-loop-bin l = Putting (numbers_bytes l.bins) l.initial.out l.out (numbers_bytes (drop l.bin-index l.bins)) l.at
