-- `record::fit_lines::put_totals` meets its contract. Assumes nothing.
use Rattle.record.specs.Fits.{totals_text}
use Rattle.record.proofs.fit_lines.put_totals.Goals as goal

pub returns : goal.returns
unfolding totals_text
returns c = record { value = cc; out_after = cc }
