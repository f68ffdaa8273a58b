-- `record::fit_lines::put_weights` meets its contract. Assumes nothing.
use Rattle.record.specs.Fits.{weights_text}
use Rattle.record.proofs.fit_lines.put_weights.Goals as goal

pub returns : goal.returns
unfolding weights_text
returns c = record { value = cc; out_after = cc }
