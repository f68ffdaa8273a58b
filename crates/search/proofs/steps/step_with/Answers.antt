-- `search::steps::step_with` meets its contract. Assumes nothing.
use mathlib.Core.Path.{ap, ◌∙◌}
use mathlib.Core.List.{List, ◌∷◌}
use lib.Ieee.{Float}
use Rattle.search.specs.Priced.{price_in}
use Rattle.search.specs.Rule.{expanded, contracted_out, contracted_in}
use Rattle.search.specs.Simplex.{vertices_in}
use Rattle.search.specs.Vertices.{Vertex}
use Rattle.search.proofs.PricesKept.{kept-then}
use Rattle.search.proofs.SameSimplex.{vertices-length}
use Rattle.search.proofs.Stepped.{below-best, below-second, below-worst, not-below}
use Rattle.search.proofs.steps.step_with.Goals as goal

pub returns-then-cost : goal.returns-then-cost
returns-then-cost c =
    let s = c.args.simplex.now in
    let t = c.try_point-cost in
    let reflected : Vertex = t.result ∷ t.new.point in
    record {
      vertices_after = c.expand.ensures.vertices_after
          ∙ ap (λ (f : List Float → Float). expanded f (vertices_in s) c.centroid.new.point reflected) t.ensures.kept.prices
          ∙ below-best (price_in c.args.prices.now) (vertices_in s) s.w (vertices-length s) _ _ c.centroid.ensures
          c.point.ensures.value _ _ t.ensures.point_after t.ensures.value _ c.cost.ensures c.if-cost.true;
      same = c.expand.ensures.same;
      kept = kept-then t.ensures.kept c.expand.ensures.kept;
    }

pub returns-then-cost-2-clause-vertices_after : goal.returns-then-cost-2-clause-vertices_after
returns-then-cost-2-clause-vertices_after c =
    let s = c.args.simplex.now in
    let t = c.try_point-cost in
    c.put.ensures.vertices_after
    ∙ below-second (price_in c.args.prices.now) (vertices_in s) s.w (vertices-length s) _ _ c.centroid.ensures
    c.point.ensures.value _ _ t.ensures.point_after t.ensures.value _ c.cost.ensures c.if-cost.false
    _ c.cost-2.ensures c.if-cost-2.true

pub returns-then-cost-3 : goal.returns-then-cost-3
returns-then-cost-3 c =
    let s = c.args.simplex.now in
    let t = c.try_point-cost in
    let reflected : Vertex = t.result ∷ t.new.point in
    record {
      vertices_after = c.contract_out.ensures.vertices_after
          ∙ ap (λ (f : List Float → Float). contracted_out f (vertices_in s) c.centroid.new.point reflected) t.ensures.kept.prices
          ∙ below-worst (price_in c.args.prices.now) (vertices_in s) s.w (vertices-length s) _ _ c.centroid.ensures
          c.point.ensures.value _ _ t.ensures.point_after t.ensures.value _ c.cost.ensures c.if-cost.false
          _ c.cost-2.ensures c.if-cost-2.false _ c.cost-3.ensures c.if-cost-3.true;
      same = c.contract_out.ensures.same;
      kept = kept-then t.ensures.kept c.contract_out.ensures.kept;
    }

pub returns : goal.returns
returns c =
    let s = c.args.simplex.now in
    let t = c.try_point-cost in
    record {
      vertices_after = c.contract_in.ensures.vertices_after
          ∙ ap (λ (f : List Float → Float). contracted_in f (vertices_in s) c.centroid.new.point) t.ensures.kept.prices
          ∙ not-below (price_in c.args.prices.now) (vertices_in s) s.w (vertices-length s) _ _ c.centroid.ensures
          c.point.ensures.value _ _ t.ensures.point_after t.ensures.value _ c.cost.ensures c.if-cost.false
          _ c.cost-2.ensures c.if-cost-2.false _ c.cost-3.ensures c.if-cost-3.false;
      same = c.contract_in.ensures.same;
      kept = kept-then t.ensures.kept c.contract_in.ensures.kept;
    }
