-- Texts put one behind the other are put as one. Assumes nothing.
use Rattle.templates.proofs.Cuts.{end-join, put-join}

pub ruleset joins = (end-join, put-join)
