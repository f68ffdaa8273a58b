-- `models::params::mode_at` meets its contract. Assumes nothing.
use lib.Ieee.{round, of_bits}
use Rattle.models.specs.Params.{mode_of}
use Rattle.models.proofs.params.mode_at.Goals as goal

pub returns : goal.returns
unfolding mode_of round of_bits
returns c = rw c.exp.ensures
