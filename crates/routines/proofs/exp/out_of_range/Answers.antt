-- `routines::exp::out_of_range` meets its contract. Assumes nothing.
use lib.Ieee.{div, of_bits}
use Rattle.routines.specs.Exp.{out_of_range}
use Rattle.routines.proofs.exp.out_of_range.Goals as goal

pub returns-then-x-2 : goal.returns-then-x-2
unfolding out_of_range div of_bits
returns-then-x-2 c = rw (c.if-x.false, c.if-x-2.true)
