-- `record::fit_lines::put_masses` meets its contract. Assumes nothing.
use Rattle.record.specs.Fits.{masses_text}
use Rattle.record.proofs.fit_lines.put_masses.Goals as goal

pub returns : goal.returns
unfolding masses_text
returns c = record { value = cc; out_after = cc }
