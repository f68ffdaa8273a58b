-- `search::steps::contract_in` meets its contract. Assumes nothing.
use mathlib.Core.Path.{ap, ◌∙◌}
use mathlib.Core.List.{List}
use lib.Ieee.{Float}
use Rattle.search.specs.Priced.{price_in}
use Rattle.search.specs.Simplex.{vertices_in}
use Rattle.search.specs.Rule.{shrunk}
use Rattle.search.proofs.PricesKept.{kept-then}
use Rattle.search.proofs.SameSimplex.{vertices-length}
use Rattle.search.proofs.Stepped.{in_taken, in-shrunk}
use Rattle.search.proofs.steps.contract_in.Goals as goal

pub returns-then-cost-clause-vertices_after : goal.returns-then-cost-clause-vertices_after
returns-then-cost-clause-vertices_after c =
    let a = c.args in
    let s = a.simplex.now in
    let t = c.try_point-cost.ensures in
    c.put.ensures.vertices_after
    ∙ in_taken (price_in a.prices.now) (vertices_in s) s.w (vertices-length s) a.centre.now _ c.point.ensures.value _ _ _
    t.point_after t.value c.cost.ensures c.if-cost.true

pub returns : goal.returns
returns c =
    let a = c.args in
    let s = a.simplex.now in
    let t = c.try_point-cost.ensures in
    record {
      vertices_after = c.shrink.ensures.vertices_after
          ∙ ap (λ (f : List Float → Float). shrunk f (vertices_in s)) t.kept.prices
          ∙ in-shrunk (price_in a.prices.now) (vertices_in s) s.w (vertices-length s) a.centre.now _ c.point.ensures.value _ _ _
          t.point_after t.value c.cost.ensures c.if-cost.false;
      same = c.shrink.ensures.same;
      kept = kept-then t.kept c.shrink.ensures.kept;
    }
