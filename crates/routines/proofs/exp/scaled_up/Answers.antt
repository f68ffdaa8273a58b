-- `routines::exp::scaled_up` meets its contract. Assumes nothing.
use Rattle.routines.proofs.Patterns.{field-only}
use Rattle.routines.proofs.exp.scaled_up.Goals as goal

pub float_from_bits-a : goal.float_from_bits-a
float_from_bits-a c = field-only _

pub float_from_bits-b : goal.float_from_bits-b
float_from_bits-b c = field-only _
