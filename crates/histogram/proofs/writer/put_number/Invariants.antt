-- `histogram::writer::put_number` meets its contract: at each turn the bytes still to come are those of what is left.
-- Assumes nothing.
use Rattle.histogram.specs.Number.{number_bytes}
use Rattle.histogram.proofs.Puts.{Putting}
use Rattle.histogram.proofs.writer.put_number.Given as goal

abbrev pub invariant-loop-left : goal.invariant-loop-left
invariant-loop-left l = Putting (number_bytes l.n) l.initial.out l.out (number_bytes l.left) l.at

abbrev pub decreases-loop-left : goal.decreases-loop-left
decreases-loop-left l = l.left
