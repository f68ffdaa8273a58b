-- `helpers::single_copies::beta_density` meets its contract. Assumes nothing.
use lib.Ieee.{div, neg, of_bits}
use Rattle.helpers.specs.SingleCopies.{beta_density_of}
use Rattle.helpers.proofs.single_copies.beta_density.Goals as goal

pub returns-then-x-b : goal.returns-then-x-b
unfolding beta_density_of div neg of_bits
returns-then-x-b c = rw c.if-x-b.true
