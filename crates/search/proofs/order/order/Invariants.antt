-- The vertices from i on are in order, those before stand as they stood.
use mathlib.Core.Path.{◌≡◌}
use Rattle.search.specs.Simplex.{vertices_in, IsSame}
use Rattle.search.proofs.Ordering.{ordered_from}
use Rattle.search.proofs.order.order.Given as goal

abbrev pub invariant-loop-i : goal.invariant-loop-i
invariant-loop-i l =
    record {
      same : IsSame l.initial.simplex l.simplex;
      state : vertices_in l.simplex ≡ ordered_from (vertices_in l.initial.simplex) l.i;
    }
