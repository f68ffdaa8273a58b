-- `record::fit_lines::put_shape` meets its contract. Assumes nothing.
use Rattle.record.specs.Fits.{shape_text}
use Rattle.record.proofs.fit_lines.put_shape.Goals as goal

pub returns : goal.returns
unfolding shape_text
returns c = record { value = cc; out_after = cc }
