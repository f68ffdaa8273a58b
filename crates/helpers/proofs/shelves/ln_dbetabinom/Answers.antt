-- `helpers::shelves::ln_dbetabinom` meets its contract. Assumes nothing.
use lib.Ieee.{div, neg, of_bits}
use Rattle.helpers.specs.Shelves.{ln_dbetabinom_of}
use Rattle.helpers.proofs.shelves.ln_dbetabinom.Goals as goal

pub returns-then-x-trials : goal.returns-then-x-trials
unfolding ln_dbetabinom_of div neg of_bits
returns-then-x-trials c = rw c.if-x-trials.true
