-- The first simplex of a start: the start itself, and one vertex more for each coordinate, with 0.5 added to it. Document
-- 02, ask 6. Definitions only. Assumes nothing.
use Rattle.std.specs.Prelude.{ℕ, zero, suc, ◌+◌, List, length, get_or, set, Float}
use Rattle.std.specs.Float.{nan}
use Rattle.routines.specs.Constants.{half}
use Rattle.routines.specs.Ops.{◌⊕◌}
use Rattle.search.specs.Lists.{list_of}
use Rattle.search.specs.Rule.{vertex_of}
use Rattle.search.specs.Vertices.{Vertex}

unfoldable pub first_point : List Float → ℕ → List Float
first_point start zero = start
first_point start (suc j) = set start j (get_or start j nan ⊕ half)

unfoldable pub first_simplex : (List Float → Float) → List Float → List Vertex
first_simplex cost start = list_of (λ (i : ℕ). vertex_of cost (first_point start i)) (length start + 1)
