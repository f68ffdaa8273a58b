-- `record::fit_lines::put_scores` meets its contract. Assumes nothing.
use Rattle.record.specs.Fits.{scores_text}
use Rattle.record.proofs.fit_lines.put_scores.Goals as goal

pub returns : goal.returns
unfolding scores_text
returns c = record { value = cc; out_after = cc }
