-- `models::params::shelf_at` meets its contract. Assumes nothing.
use lib.Ieee.{round, of_bits}
use Rattle.models.specs.Params.{shelf_at}
use Rattle.models.proofs.params.shelf_at.Goals as goal

pub returns : goal.returns
unfolding shelf_at round of_bits
returns c =
    rw (c.from_retained.ensures, c.sigmoid-3.ensures, c.sigmoid-2.ensures)
    (rw (c.shelf_concentration_bounds-bounds.ensures, c.sigmoid.ensures))
