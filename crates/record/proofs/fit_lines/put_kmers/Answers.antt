-- `record::fit_lines::put_kmers` meets its contract. Assumes nothing.
use Rattle.record.specs.Fits.{kmers_text}
use Rattle.record.proofs.fit_lines.put_kmers.Goals as goal

pub returns : goal.returns
unfolding kmers_text
returns c = record { value = cc; out_after = cc }
