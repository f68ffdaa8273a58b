-- `models::shelf_rules::shelf_concentration_bounds` meets its contract. Assumes nothing.
use mathlib.Core.Path.{refl}
use lib.Ieee.{round, of_bits}
use Rattle.models.proofs.shelf_rules.shelf_concentration_bounds.Goals as goal

pub returns : goal.returns
unfolding round of_bits
returns c = refl
