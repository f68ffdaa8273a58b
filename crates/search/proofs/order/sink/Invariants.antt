-- The vertex at k has still to sink, and from here that comes to the same.
use mathlib.Core.Path.{◌≡◌}
use Rattle.search.specs.Simplex.{vertices_in, IsSame}
use Rattle.search.proofs.Ordering.{sunk}
use Rattle.search.proofs.order.sink.Given as goal

abbrev pub invariant-loop-k : goal.invariant-loop-k
invariant-loop-k l =
    record {
      same : IsSame l.initial.simplex l.simplex;
      state : sunk (vertices_in l.initial.simplex) l.i ≡ sunk (vertices_in l.simplex) l.k;
    }
