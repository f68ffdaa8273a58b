-- The vertices of a simplex: each is a row of numbers, what it costs and then its coordinates. In a lent slice the rows
-- lie one behind the other. Definitions only. Assumes nothing.
use Rattle.std.specs.Prelude.{ℕ, zero, suc, ◌*◌, List, [], ◌∷◌, ◌++◌, take, drop, get_or, Float}
use Rattle.std.specs.Float.{nan}

abbrev pub Vertex : Type 0
Vertex = List Float

abbrev pub vertex_at : List Vertex → ℕ → Vertex
vertex_at vs i = get_or vs i []

abbrev pub cost_in : Vertex → Float
cost_in v = get_or v 0 nan

abbrev pub point_in : Vertex → List Float
point_in v = drop 1 v

-- ---- n rows of w numbers
unfoldable pub rows_in : ℕ → ℕ → List Float → List Vertex
rows_in w zero xs = []
rows_in w (suc n) xs = take w xs ∷ rows_in w n (drop w xs)

-- row i
abbrev pub row_at : List (List Float) → ℕ → List Float
row_at rows i = get_or rows i []

-- ---- many simplexes, each of w rows of w numbers: the vertices of number i
abbrev pub block_at : ℕ → List Float → ℕ → ℕ → List Vertex
block_at w simplexes many i = rows_in w w (row_at (rows_in (w * w) many simplexes) i)

-- ---- rows laid out, one behind the other
unfoldable pub flat : List Vertex → List Float
flat [] = []
flat (v ∷ vs) = v ++ flat vs
