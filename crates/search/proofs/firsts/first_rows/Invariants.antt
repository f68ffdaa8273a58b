-- The rows before i hold the first vertices.
use mathlib.Core.List.{[]}
use Rattle.search.specs.Priced.{price_in, IsKept}
use Rattle.search.specs.Simplex.{vertices_in, IsSame}
use Rattle.search.proofs.Elements.{Passed}
use Rattle.search.proofs.FirstRows.{first_at}
use Rattle.search.proofs.firsts.first_rows.Given as goal

abbrev pub invariant-loop-i : goal.invariant-loop-i
invariant-loop-i l =
    record {
      same : IsSame l.initial.simplex l.simplex;
      kept : IsKept l.initial.prices l.prices;
      rows : Passed (first_at (price_in l.initial.prices) l.start) [] (vertices_in l.initial.simplex) (vertices_in l.simplex) l.i;
    }
