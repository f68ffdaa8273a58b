-- `helpers::shelves::shelf_logs` meets its contract. Assumes nothing.
use lib.Ieee.{neg, div, of_bits}
use Rattle.helpers.proofs.shelves.shelf_logs.Goals as goal

pub returns-in-None : goal.returns-in-None
unfolding neg div of_bits
returns-in-None c = rw c.in-None.is
