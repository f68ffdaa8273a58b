-- `search::steps::shrink` meets its contract. Assumes nothing.
use Prim.Native.Nat.{ℕ, ◌+◌}
use mathlib.Core.Path.{◌≡◌, sym, ap, subst, ◌∙◌}
use mathlib.Core.List.{List, []}
use native.Mathlib.Omega.{arith}
use lib.ListN.{length}
use lib.Ieee.{Float}
use Rattle.search.specs.Points.{moved}
use Rattle.search.specs.Priced.{price_in}
use Rattle.search.specs.Simplex.{vertices_in}
use Rattle.search.specs.Vertices.{Vertex}
use Rattle.search.specs.declared.points.Move.TheVariants.{Half}
use Rattle.search.proofs.Elements.{Passed}
use Rattle.search.proofs.PricesKept.{none-priced, kept-then}
use Rattle.search.proofs.SameSimplex.{vertices-length, none-changed, same-then}
use Rattle.search.proofs.Shrinks.{shrunk_at, shrink-begins, shrink-goes-on, shrink-ends}
use Rattle.search.proofs.steps.shrink.Goals as goal

pub loop-i-init : goal.loop-i-init
loop-i-init c =
    let s = c.args.simplex.now in
    record {
      same = none-changed;
      kept = none-priced;
      rows = shrink-begins (price_in c.args.prices.now) (vertices_in s) (omega (arith, vertices-length s));
    }

pub loop-i-preserved : goal.loop-i-preserved
loop-i-preserved c =
    let s = c.args.simplex.now in
    let i : ℕ = c.loop-i.i in
    let cost : List Float → Float = price_in c.args.prices.now in
    let vs : List Vertex = vertices_in s in
    let here : List Float = c.point-in-loop-i.result.now in
    let best : List Float = c.copy_from_slice.new.self in
    let t = c.try_point-cost in
    record {
      same = same-then c.loop-i.invariant.same c.put.ensures.same;
      kept = kept-then c.loop-i.invariant.kept t.ensures.kept;
      rows = subst (λ (us : List Vertex). Passed (shrunk_at cost vs) [] vs us (i + 1)) (sym c.put.ensures.vertices_after)
          (shrink-goes-on cost vs c.loop-i.invariant.rows (omega arith) (omega (arith, vertices-length s)) best here
          t.new.point t.result (c.copy_from_slice.ensures.after ∙ c.point.ensures.value) c.point-in-loop-i.ensures.value
          t.ensures.point_after
          (t.ensures.value ∙ ap (λ (f : List Float → Float). f (moved Half here best)) c.loop-i.invariant.kept.prices));
    }

pub returns : goal.returns
returns c =
    let s = c.args.simplex.now in
    let vs : List Vertex = vertices_in s in
    let n : length vs ≡ s.w = vertices-length s in
    record {
      vertices_after = shrink-ends (price_in c.args.prices.now) vs (vertices_in c.loop-i.simplex) c.loop-i.i (omega (arith, n))
          c.loop-i.invariant.rows (omega (arith, n));
      same = c.loop-i.invariant.same;
      kept = c.loop-i.invariant.kept;
    }
