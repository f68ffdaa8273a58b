-- `search::spread::mean_cost` meets its contract. Assumes nothing.
use Rattle.meaning.proofs.Loops.{Folded}
use Rattle.search.specs.Simplex.{vertices_in}
use Rattle.search.specs.Spread.{cost_at}
use Rattle.search.proofs.Costs.{add_cost}
use Rattle.search.proofs.spread.mean_cost.Given as goal

abbrev pub invariant-loop-i : goal.invariant-loop-i
invariant-loop-i l = Folded (add_cost (vertices_in l.simplex)) (cost_at (vertices_in l.simplex) 0) 1 l.w l.sum l.i
