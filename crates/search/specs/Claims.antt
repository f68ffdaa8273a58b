-- Words for the theorems on an iteration and on a run. Definitions only. Assumes nothing.
use Rattle.std.specs.Prelude.{ℕ, zero, suc, ◌<◌, ◌≡◌, List, length, Float}
use Rattle.search.specs.Order.{ordered}
use Rattle.search.specs.Rule.{stepped}
use Rattle.search.specs.Vertices.{Vertex, vertex_at, cost_in, point_in}

-- every vertex is so
abbrev pub Every : (Vertex → Type 0) → List Vertex → Type 0
Every Q vs = (i : ℕ) → i < length vs → Q (vertex_at vs i)

-- every vertex has w numbers
abbrev pub Sized : ℕ → List Vertex → Type 0
Sized w = Every (λ (v : Vertex). length v ≡ w)

-- what the cheapest costs
abbrev pub least_of : List Vertex → Float
least_of vs = cost_in (vertex_at (ordered vs) 0)

module _ (cost : List Float → Float) where
  -- every vertex's cost is the cost of its coordinates
  abbrev pub Priced : List Vertex → Type 0
  Priced = Every (λ (v : Vertex). cost_in v ≡ cost (point_in v))

  -- k iterations, with no test: each orders the vertices and makes a step by the rule
  unfoldable pub steps_of : ℕ → List Vertex → List Vertex
  steps_of zero vs = vs
  steps_of (suc k) vs = steps_of k (stepped cost (ordered vs))
