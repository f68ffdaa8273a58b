-- `models::errors::factor` meets its contract. Assumes nothing.
use Rattle.models.specs.Errors.{factor_of}
use Rattle.models.proofs.errors.factor.Goals as goal

pub returns-in_default : goal.returns-in_default
unfolding factor_of
returns-in_default c = rw c.in_default.is

pub returns-then-value : goal.returns-then-value
unfolding factor_of
returns-then-value c = rw (c.in-Some.is, c.if-value.true)

pub returns : goal.returns
unfolding factor_of
returns c = rw (c.in-Some.is, c.if-value.false) (rw c.expm1.ensures)
