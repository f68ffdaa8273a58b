-- The cost that the search goes by: `cost`'s own answer for a list, and +inf where it refuses, which is ruled out before
-- a search begins. Definitions only. Assumes nothing.
use Rattle.std.specs.Prelude.{ℕ, ◌+◌, false, List, Float}
use Rattle.std.specs.Float.{inf}
use Rattle.meaning.specs.Reply.{Reply, refuse, broken, give}
use Rattle.models.specs.Costs.{cost_of}
use Rattle.models.specs.Families.{list_length_of}
use Rattle.models.specs.Prepared.{prepared_cost_of}
use Rattle.models.specs.Refusals.{table_demand}
use Rattle.models.specs.declared.families.GenomeModel.{GenomeModel}
use Rattle.models.specs.declared.families.GenomeModel.TheVariants.{NegativeBinomial, ShelfNegativeBinomial}
use Rattle.models.specs.declared.problems.Problem.{Problem}

abbrev pub price_said : Reply Float → Float
price_said (refuse n) = inf false
price_said (broken place) = inf false
price_said (give x) = x

-- the most iterations of a run
abbrev pub cap_of : GenomeModel → ℕ
cap_of NegativeBinomial = 1000
cap_of ShelfNegativeBinomial = 2000

module _ (bins : List ℕ) (p : Problem) where
  -- `room` is the length of the shelf's table
  unfoldable pub price_of : ℕ → List Float → Float
  price_of room list =
      price_said (cost_of bins p.scale p.window_end p.peak p.error p.genome list room)

  -- the same out of `cost_prepared`, over a slice of ln n and lgamma(n + 1), whatever it holds
  unfoldable pub ready_price_of : List Float → ℕ → List Float → Float
  ready_price_of ready room list =
      price_said (prepared_cost_of bins p.scale p.window_end p.peak p.error p.genome list ready room)

-- the numbers in a row: the cost and the coordinates; and so many rows
abbrev pub width_of : Problem → ℕ
width_of p = list_length_of p.error p.genome + 1

-- from where on the shelf's table stands as found
abbrev pub stands_from : Problem → ℕ
stands_from p = table_demand p.genome p.window_end
