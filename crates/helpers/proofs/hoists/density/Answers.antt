-- `helpers::hoists::density` meets its contract. Assumes nothing.
use Rattle.helpers.specs.Hoists.{density_of, density_with}
use Rattle.helpers.proofs.hoists.density.Goals as goal

pub returns : goal.returns
unfolding density_of density_with
returns c = rw (c.density_with.ensures, c.lgamma.ensures)
