-- `search::rows::Simplex::cost` meets its contract. Assumes nothing.
use mathlib.Core.Path.{sym}
use Rattle.search.specs.Simplex.{vertices_in}
use Rattle.search.proofs.Costs.{cost-in}
use Rattle.search.proofs.rows.Simplex.cost.Goals as goal

pub returns : goal.returns
unfolding vertices_in
returns c = let s = c.args.self.now in sym (cost-in s.w s.rows.now s.square c.args.i c.requires)
