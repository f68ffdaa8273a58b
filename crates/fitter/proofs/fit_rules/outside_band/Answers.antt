-- `fitter::fit_rules::outside_band` meets its contract. Assumes nothing.
use lib.Ieee.{round, of_bits}
use Rattle.fitter.specs.Validation.{outside_band}
use Rattle.fitter.proofs.fit_rules.outside_band.Goals as goal

pub returns-then-mode-peak : goal.returns-then-mode-peak
unfolding outside_band round of_bits
returns-then-mode-peak c = rw c.if-mode-peak.true

pub returns-else-mode-peak : goal.returns-else-mode-peak
unfolding outside_band round of_bits
returns-else-mode-peak c = rw c.if-mode-peak.false
