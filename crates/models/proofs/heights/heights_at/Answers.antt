-- `models::heights::heights_at` meets its contract: the terms of a fit give its heights. Assumes nothing.
use mathlib.Core.Path.{◌∙◌}
use Rattle.models.proofs.HeightTerms.{terms-heights}
use Rattle.models.proofs.heights.heights_at.Goals as goal

pub returns : goal.returns
returns c = c.heights_of.ensures ∙ rw c.height_terms.ensures (terms-heights _ _)
