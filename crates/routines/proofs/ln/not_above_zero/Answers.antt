-- `routines::ln::not_above_zero` meets its contract. Assumes nothing.
use lib.Ieee.{div, neg, of_bits}
use Rattle.routines.proofs.ln.not_above_zero.Goals as goal

pub returns-then-x : goal.returns-then-x
unfolding div neg of_bits
returns-then-x c = rw c.if-x.true

pub returns-else-x : goal.returns-else-x
unfolding div of_bits
returns-else-x c = rw c.if-x.false
