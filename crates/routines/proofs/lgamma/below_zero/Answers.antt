-- `routines::lgamma::below_zero` meets its contract. Assumes nothing.
use Rattle.std.proofs.Common.{sym}
use lib.Ieee.{div, of_bits}
use Rattle.routines.specs.Lgamma.{below_zero}
use Rattle.routines.proofs.lgamma.below_zero.Goals as goal

pub returns-then-n-a : goal.returns-then-n-a
unfolding below_zero div of_bits
returns-then-n-a c =
    let same = sym c.floor-n.ensures in
    rw (same, c.if-n-a.true)
