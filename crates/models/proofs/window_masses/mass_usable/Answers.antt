-- `models::window_masses::mass_usable` meets its contract. Assumes nothing.
use lib.Ieee.{round, of_bits}
use Rattle.models.specs.Masses.{mass_usable}
use Rattle.models.proofs.window_masses.mass_usable.Goals as goal

pub returns-then-is_finite : goal.returns-then-is_finite
unfolding mass_usable round of_bits
returns-then-is_finite c = cc

pub returns-else-is_finite : goal.returns-else-is_finite
unfolding mass_usable round of_bits
returns-else-is_finite c = cc
