-- `routines::tables::power_at` meets its contract: the last arm, with no key, returns the last row. Assumes nothing.
use Rattle.std.proofs.Common.{◌%◌, arith}
use lib.Ieee.{of_bits, neg}
use Rattle.routines.specs.Tables.{rows, power_of}
use Rattle.routines.proofs.Rows.{last_row}
use Rattle.routines.proofs.tables.power_at.Goals as goal

pub returns-in_default : goal.returns-in_default
unfolding rows of_bits neg
returns-in_default c = last_row power_of 31 (c.args.i % 32) (omega arith) search
