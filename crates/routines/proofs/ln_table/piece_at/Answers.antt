-- `routines::ln_table::piece_at` meets its contract: the last arm, with no key, returns the last row. Assumes nothing.
use Rattle.std.proofs.Common.{◌%◌, arith}
use Rattle.routines.specs.LnTable.{ln_rows, piece_of}
use Rattle.routines.proofs.Rows.{last_row}
use Rattle.routines.proofs.ln_table.piece_at.Goals as goal

pub returns-in_default : goal.returns-in_default
unfolding ln_rows
returns-in_default c = last_row piece_of 127 (c.args.i % 128) (omega arith) search
