-- `routines::ln_table::log_at` meets its contract: the last arm, with no key, returns the last row. Assumes nothing.
use Rattle.std.proofs.Common.{◌%◌, arith}
use lib.Ieee.{of_bits, neg}
use Rattle.routines.specs.LnTable.{ln_rows, log_of}
use Rattle.routines.proofs.Rows.{last_row}
use Rattle.routines.proofs.ln_table.log_at.Goals as goal

pub returns-in_default : goal.returns-in_default
unfolding ln_rows of_bits neg
returns-in_default c = last_row log_of 127 (c.args.i % 128) (omega arith) search
