-- `routines::pick::is_finite` meets its contract. Assumes nothing.
use Rattle.routines.proofs.Picks.{finite-is}
use Rattle.routines.proofs.pick.is_finite.Goals as goal

pub returns : goal.returns
returns c = finite-is c.args.x
