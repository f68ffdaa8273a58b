-- `helpers::lobes::ln_dnbinom` meets its contract: a lobe's density is the density. Assumes nothing.
use mathlib.Core.Path.{◌∙◌}
use Rattle.helpers.proofs.Densities.{density-is}
use Rattle.helpers.proofs.lobes.ln_dnbinom.Goals as goal

pub returns : goal.returns
returns c = c.density.ensures ∙ rw c.lobe_of.ensures (density-is _ _ _)
