-- `models::fit::abs` meets its contract. Assumes nothing.
use mathlib.Core.Path.{◌∙◌}
use Rattle.std.proofs.lemmas.Float.{T_from_true}
use Rattle.models.proofs.StdFloats.{size-is}
use Rattle.models.proofs.fit.abs.Goals as goal

pub returns : goal.returns
returns c = c.abs.ensures.value ∙ size-is c.args.x (T_from_true _ c.well_formed.0.1)
