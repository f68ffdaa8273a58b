-- `fitter::recovering::write_bins` meets its contract. The loop's invariant: the first i bins are written. Assumes nothing.
use mathlib.Core.Path.{◌≡◌}
use lib.ListN.{take}
use Rattle.meaning.specs.Over.{over}
use Rattle.fitter.specs.Recovering.{recovered}
use Rattle.fitter.proofs.recovering.write_bins.Given as goal

abbrev pub invariant-loop-i : goal.invariant-loop-i
invariant-loop-i l = l.out ≡ over (recovered l.used (take l.i l.bins)) l.initial.out
