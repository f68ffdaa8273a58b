-- `models::params::ratio_at` meets its contract. Assumes nothing.
use lib.Ieee.{round, of_bits}
use Rattle.models.specs.Params.{ratio_of}
use Rattle.models.proofs.params.ratio_at.Goals as goal

pub returns : goal.returns
unfolding ratio_of round of_bits
returns c = rw c.sigmoid.ensures
