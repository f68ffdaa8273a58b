-- `search::rows::Simplex::point` meets its contract. Assumes nothing.
use Rattle.search.specs.Simplex.{vertices_in}
use Rattle.search.proofs.Centroids.{point-lent}
use Rattle.search.proofs.rows.Simplex.point.Goals as goal

pub returns-clause-value : goal.returns-clause-value
unfolding vertices_in
returns-clause-value c = let s = c.args.self.now in point-lent s.w s.rows.now s.square c.args.i c.requires
