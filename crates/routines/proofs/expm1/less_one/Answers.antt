-- `routines::expm1::less_one` meets its contract. Assumes nothing.
use Rattle.routines.proofs.Patterns.{field-only}
use Rattle.routines.proofs.expm1.less_one.Goals as goal

pub float_from_bits-a : goal.float_from_bits-a
float_from_bits-a c = field-only _
