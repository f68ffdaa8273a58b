-- `models::shelf_rules::shelf_is_valid` meets its contract: its constants are those of the specification, once opened.
-- Assumes nothing.
use lib.Ieee.{round, of_bits}
use Rattle.std.proofs.Common.{rules}
use Rattle.models.specs.ShelfRules.{shelf_is_valid_of}
use Rattle.models.proofs.shelf_rules.shelf_is_valid.Goals as goal

pub returns-then-retained : goal.returns-then-retained
unfolding shelf_is_valid_of round of_bits
returns-then-retained c = search rules

pub returns-else-retained : goal.returns-else-retained
unfolding shelf_is_valid_of round of_bits
returns-else-retained c = search rules
