-- `helpers::shelves::mix_single_copy` meets its contract. Assumes nothing.
use Rattle.helpers.proofs.Densities.{mix-entry-is}
use Rattle.helpers.proofs.shelves.mix_single_copy.Goals as goal

pub returns : goal.returns
returns c = rw (c.mix_entry.ensures, c.shelf_logs.ensures) (mix-entry-is _ _ _ _)
