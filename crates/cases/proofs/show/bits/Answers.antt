-- What is equal to itself is no NaN. Assumes nothing.
use Rattle.routines.proofs.Patterns.{equal_no_nan}
use Rattle.cases.proofs.show.bits.Goals as goal

pub float_to_bits-pattern : goal.float_to_bits-pattern
float_to_bits-pattern g c = equal_no_nan _ c.if-x.false
