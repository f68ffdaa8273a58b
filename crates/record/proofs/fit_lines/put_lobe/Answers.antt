-- `record::fit_lines::put_lobe` meets its contract. Assumes nothing.
use Rattle.record.specs.Fits.{lobe_text}
use Rattle.record.proofs.fit_lines.put_lobe.Goals as goal

pub returns : goal.returns
unfolding lobe_text
returns c = record { value = cc; out_after = cc }
