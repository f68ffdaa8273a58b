-- The vertices before i are shrunk, the rest stand as they stood.
use mathlib.Core.List.{List, []}
use Rattle.search.specs.Priced.{price_in, IsKept}
use Rattle.search.specs.Simplex.{vertices_in, IsSame}
use Rattle.search.specs.Vertices.{Vertex}
use Rattle.search.proofs.Elements.{Passed}
use Rattle.search.proofs.Shrinks.{shrunk_at}
use Rattle.search.proofs.steps.shrink.Given as goal

abbrev pub invariant-loop-i : goal.invariant-loop-i
invariant-loop-i l =
    let vs : List Vertex = vertices_in l.initial.simplex in
    record {
      same : IsSame l.initial.simplex l.simplex;
      kept : IsKept l.initial.prices l.prices;
      rows : Passed (shrunk_at (price_in l.initial.prices) vs) [] vs (vertices_in l.simplex) l.i;
    }
