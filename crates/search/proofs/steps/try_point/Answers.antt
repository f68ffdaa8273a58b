-- `search::steps::try_point` meets its contract. Assumes nothing.
use mathlib.Core.Path.{ap, ◌∙◌}
use mathlib.Core.List.{List}
use lib.Ieee.{Float}
use Rattle.search.specs.Points.{moved}
use Rattle.search.specs.Priced.{price_in}
use Rattle.search.proofs.steps.try_point.Goals as goal

pub returns : goal.returns
returns c =
    let a = c.args in
    let e = c.move_point.ensures ∙ ap (λ (x : List Float). moved a.how x a.other.now) c.copy_from_slice.ensures.after in
    record {
      point_after = e;
      value = c.price.ensures.value ∙ ap (price_in a.prices.now) e;
      kept = c.price.ensures.kept;
    }
