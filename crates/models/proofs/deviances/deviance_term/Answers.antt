-- `models::deviances::deviance_term` meets its contract. Assumes nothing.
use lib.Ieee.{div, round, of_bits}
use Rattle.models.specs.Deviances.{deviance_term}
use Rattle.models.proofs.deviances.deviance_term.Goals as goal

pub returns-then-expected : goal.returns-then-expected
unfolding deviance_term round of_bits
returns-then-expected c = rw (c.if-expected.true, c.ln.ensures)

pub returns : goal.returns
unfolding deviance_term div of_bits
returns c = rw c.if-expected.false
