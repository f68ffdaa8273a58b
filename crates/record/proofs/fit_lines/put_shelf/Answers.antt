-- `record::fit_lines::put_shelf` meets its contract. Assumes nothing.
use Rattle.record.specs.Fits.{shelf_text}
use Rattle.record.proofs.fit_lines.put_shelf.Goals as goal

pub returns : goal.returns
unfolding shelf_text
returns c = record { value = cc; out_after = cc }
