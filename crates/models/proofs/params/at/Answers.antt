-- `models::params::at` meets its contract. Assumes nothing.
use lib.Ieee.{div, of_bits}
use borrow.Author.Rules.{rules}
use Rattle.models.proofs.params.at.Goals as goal

pub returns : goal.returns
unfolding div of_bits
returns c = search rules
