-- `search::turns::turn` meets its contract. Assumes nothing.
use mathlib.Core.Path.{sym, ◌∙◌}
use Rattle.search.specs.Priced.{price_in}
use Rattle.search.specs.Simplex.{state_in}
use Rattle.search.proofs.PricesKept.{none-priced}
use Rattle.search.proofs.SameSimplex.{same-then}
use Rattle.search.proofs.Turned.{settles, steps}
use Rattle.search.proofs.turns.turn.Goals as goal

pub returns-then-is_settled : goal.returns-then-is_settled
returns-then-is_settled c =
    let a = c.args in
    record {
      result_after = settles (price_in a.prices.now) (state_in a.simplex.now a.progress) _ c.order.ensures.vertices_after
          (sym c.is_settled.ensures ∙ c.if-is_settled.true);
      same = c.order.ensures.same;
      kept = none-priced;
    }

pub returns : goal.returns
returns c =
    let a = c.args in
    record {
      result_after = steps (price_in a.prices.now) (state_in a.simplex.now a.progress) _ c.order.ensures.vertices_after _
          (sym c.is_settled.ensures ∙ c.if-is_settled.false) c.step.ensures.vertices_after;
      same = same-then c.order.ensures.same c.step.ensures.same;
      kept = c.step.ensures.kept;
    }
