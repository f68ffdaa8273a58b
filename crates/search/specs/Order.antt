-- The vertices in the order of their costs, the earlier first on ties: document 02, ask 6. Definitions only. Assumes
-- nothing.
use Rattle.std.specs.Prelude.{cond, List, [], ◌∷◌}
use Rattle.std.specs.Float.Ieee.{lt}
use Rattle.search.specs.Vertices.{Vertex, cost_in}

-- a vertex in front of others that are in order: it goes behind those that cost less
unfoldable pub insert : Vertex → List Vertex → List Vertex
insert v [] = v ∷ []
insert v (u ∷ us) = let rest = insert v us in cond (lt (cost_in u) (cost_in v)) (u ∷ rest) (v ∷ u ∷ us)

unfoldable pub ordered : List Vertex → List Vertex
ordered [] = []
ordered (v ∷ vs) = insert v (ordered vs)
