-- `search::spread::deviation` meets its contract. Assumes nothing.
use Rattle.meaning.proofs.Loops.{Folded}
use Rattle.search.specs.Simplex.{vertices_in}
use Rattle.search.specs.Spread.{square_at}
use Rattle.search.proofs.Costs.{add_square}
use Rattle.search.proofs.spread.deviation.Given as goal

abbrev pub invariant-loop-i : goal.invariant-loop-i
invariant-loop-i l =
    Folded (add_square (vertices_in l.simplex) l.mean) (square_at (vertices_in l.simplex) l.mean 0) 1 l.w l.sum l.i
