-- `search::steps::expand` meets its contract. Assumes nothing.
use mathlib.Core.Path.{◌∙◌}
use mathlib.Core.Bool.{true, false}
use Rattle.search.specs.Priced.{price_in}
use Rattle.search.specs.Simplex.{vertices_in}
use Rattle.search.proofs.SameSimplex.{vertices-length}
use Rattle.search.proofs.Stepped.{expanded-is}
use Rattle.search.proofs.steps.expand.Goals as goal

pub returns-then-cost-reflected-clause-vertices_after : goal.returns-then-cost-reflected-clause-vertices_after
returns-then-cost-reflected-clause-vertices_after c =
    let a = c.args in
    let s = a.simplex.now in
    let t = c.try_point-cost.ensures in
    c.put.ensures.vertices_after
    ∙ expanded-is (price_in a.prices.now) (vertices_in s) s.w (vertices-length s) a.centre.now a.point.now _ c.point.ensures.value
    a.reflected _ _ t.point_after t.value true c.if-cost-reflected.true

pub returns-clause-vertices_after : goal.returns-clause-vertices_after
returns-clause-vertices_after c =
    let a = c.args in
    let s = a.simplex.now in
    let t = c.try_point-cost.ensures in
    c.put-2.ensures.vertices_after
    ∙ expanded-is (price_in a.prices.now) (vertices_in s) s.w (vertices-length s) a.centre.now a.point.now _ c.point.ensures.value
    a.reflected _ _ t.point_after t.value false c.if-cost-reflected.false
