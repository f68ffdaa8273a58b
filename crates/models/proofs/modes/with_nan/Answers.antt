-- `models::modes::with_nan` meets its contract. Assumes nothing.
use mathlib.Core.Path.{◌∙◌}
use Rattle.models.specs.Modes.{with_nan}
use Rattle.routines.proofs.Patterns.{nan-is}
use Rattle.models.proofs.modes.with_nan.Goals as goal

pub returns-then-nan : goal.returns-then-nan
unfolding with_nan
returns-then-nan c = rw c.if-nan.true

pub returns-else-nan : goal.returns-else-nan
unfolding with_nan
returns-else-nan c = rw c.if-nan.false (c.is_nan.ensures.value ∙ nan-is c.args.here)
