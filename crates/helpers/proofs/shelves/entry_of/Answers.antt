-- `helpers::shelves::entry_of` meets its contract. Assumes nothing.
use Rattle.std.proofs.Common.{arith}
use Rattle.std.proofs.lemmas.Grind.{common_steps}
use Rattle.std.proofs.lemmas.Option.{gets}
use lib.Ieee.{div, neg, of_bits}
use Rattle.helpers.proofs.shelves.entry_of.Goals as goal

pub returns : goal.returns
unfolding div neg of_bits
returns c = grind (arith, common_steps, gets)
