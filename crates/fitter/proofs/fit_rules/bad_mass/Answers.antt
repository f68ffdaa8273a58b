-- `fitter::fit_rules::bad_mass` meets its contract. Assumes nothing.
use mathlib.Core.Path.{sym, ◌∙◌}
use lib.Ieee.{round, of_bits}
use Rattle.fitter.specs.Validation.{bad_mass}
use Rattle.fitter.proofs.fit_rules.bad_mass.Goals as goal

pub returns-else-not-is_finite : goal.returns-else-not-is_finite
unfolding bad_mass round of_bits
returns-else-not-is_finite c = rw (sym c.is_finite.ensures ∙ c.if-not-is_finite.false)
