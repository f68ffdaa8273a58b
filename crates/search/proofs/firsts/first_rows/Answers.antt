-- `search::firsts::first_rows` meets its contract. Assumes nothing.
use Prim.Native.Nat.{◌+◌}
use mathlib.Core.Path.{◌≡◌, sym, ap, subst, ◌∙◌}
use mathlib.Core.List.{List, []}
use native.Mathlib.Omega.{arith}
use lib.ListN.{length}
use lib.Ieee.{Float}
use Rattle.search.specs.Priced.{price_in}
use Rattle.search.specs.Simplex.{vertices_in}
use Rattle.search.specs.Vertices.{Vertex}
use Rattle.search.proofs.Elements.{Passed}
use Rattle.search.proofs.FirstRows.{first_at, first-goes-on, first_ends}
use Rattle.search.proofs.PricesKept.{kept-then}
use Rattle.search.proofs.SameSimplex.{vertices-length, same-then}
use Rattle.search.proofs.firsts.first_rows.Goals as goal

pub loop-i-preserved : goal.loop-i-preserved
loop-i-preserved c =
    let a = c.args in
    let s = a.simplex.now in
    let cost : List Float → Float = price_in a.prices.now in
    let vs : List Vertex = vertices_in s in
    let point = c.first_point.new.point in
    let p = c.price-cost in
    record {
      same = same-then c.loop-i.invariant.same c.put.ensures.same;
      kept = kept-then c.loop-i.invariant.kept p.ensures.kept;
      rows = subst (λ (us : List Vertex). Passed (first_at cost a.start.now) [] vs us (c.loop-i.i + 1)) (sym c.put.ensures.vertices_after)
          (first-goes-on cost a.start.now c.loop-i.invariant.rows (omega (arith, vertices-length s)) point p.result c.first_point.ensures
          (p.ensures.value ∙ ap (λ (f : List Float → Float). f point) c.loop-i.invariant.kept.prices));
    }

pub returns : goal.returns
returns c =
    let a = c.args in
    let s = a.simplex.now in
    let n : length (vertices_in s) ≡ s.w = vertices-length s in
    record {
      vertices_after = first_ends (price_in a.prices.now) a.start.now c.loop-i.invariant.rows (n ∙ sym c.requires.0) (omega (arith, n));
      same = c.loop-i.invariant.same;
      kept = c.loop-i.invariant.kept;
    }
