-- `templates::floats::float` meets its contract. Assumes nothing.
use lib.Ieee.{div, of_bits}
use Rattle.templates.proofs.Bits.{above-is-nan}
use Rattle.routines.proofs.Patterns.{no_nan}
use Rattle.templates.proofs.floats.float.Goals as goal

pub returns-then-bits-gt-INFINITE : goal.returns-then-bits-gt-INFINITE
unfolding div of_bits
returns-then-bits-gt-INFINITE c = above-is-nan _ c.if-bits-gt-INFINITE.true

pub float_from_bits-result : goal.float_from_bits-result
float_from_bits-result c = no_nan _ c.if-bits-gt-INFINITE.false
