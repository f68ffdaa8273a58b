-- What it is to be in order, and what ordering keeps: words for the theorems on `ordered`. Definitions only. Assumes
-- nothing.
use Rattle.std.specs.Prelude.{ℕ, suc, ◌<◌, ◌≡◌, Bool, false, not, ◌&&◌, cond, List, [], ◌∷◌, length, Float}
use Rattle.std.specs.Float.Ieee.{lt, is_nan}
use Rattle.search.specs.Vertices.{Vertex, vertex_at, cost_in}

-- no vertex costs less than the one before it
abbrev pub InOrder : List Vertex → Type 0
InOrder vs = (i : ℕ) → suc i < length vs → lt (cost_in (vertex_at vs (suc i))) (cost_in (vertex_at vs i)) ≡ false

-- no cost is a NaN
abbrev pub Costed : List Vertex → Type 0
Costed vs = (i : ℕ) → i < length vs → is_nan (cost_in (vertex_at vs i)) ≡ false

-- the vertices that pass a test, as they stand
unfoldable pub those : (Vertex → Bool) → List Vertex → List Vertex
those p [] = []
those p (v ∷ vs) = let rest = those p vs in cond (p v) (v ∷ rest) rest

-- a vertex costs neither less nor more than c
abbrev pub ties : Float → Vertex → Bool
ties c v = not (lt (cost_in v) c) && not (lt c (cost_in v))
