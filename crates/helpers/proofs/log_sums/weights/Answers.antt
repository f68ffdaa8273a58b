-- `helpers::log_sums::weights` meets its contract. Assumes nothing.
use mathlib.Core.Path.{◌∙◌}
use Rattle.helpers.proofs.Weights.{first-weight, second-weight}
use Rattle.helpers.proofs.log_sums.weights.Goals as goal

pub returns-then-a-b : goal.returns-then-a-b
returns-then-a-b c = c.added.ensures ∙ second-weight _ _ c.requires c.if-a-b.true

pub returns-else-a-b : goal.returns-else-a-b
returns-else-a-b c = c.added-else-a-b.ensures ∙ first-weight _ _ c.requires c.if-a-b.false
