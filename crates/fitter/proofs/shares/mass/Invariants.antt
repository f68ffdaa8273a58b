-- `fitter::shares::mass` meets its contract. The loop's end is its start where the range is inverted. Assumes nothing.
use Prim.Native.Nat.{◌+◌, ◌-◌}
use lib.Ieee.{neg}
use Rattle.routines.specs.Constants.{zero}
use Rattle.meaning.proofs.Loops.{Folded}
use Rattle.fitter.specs.Recovering.{recovered}
use Rattle.fitter.specs.Shares.{mass_step}
use Rattle.fitter.proofs.shares.mass.Given as goal

abbrev pub invariant-loop-bin : goal.invariant-loop-bin
invariant-loop-bin l =
    Folded (mass_step (recovered l.used l.bins)) (neg zero) (l.from - 1) (l.from - 1 + (l.end - (l.from - 1))) l.total (l.from - 1 + l.bin-index)
