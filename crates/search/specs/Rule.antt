-- What an iteration of the simplex search does once the vertices are in order: Nelder and Mead's rule, as document 02
-- writes it under ask 6, over any cost of a point. Definitions only. Assumes nothing.
use Rattle.std.specs.Prelude.{◌-◌, cond, List, ◌∷◌, map, length, drop, set, Float}
use Rattle.std.specs.Float.Ieee.{lt, le}
use Rattle.search.specs.Points.{moved, centroid_of}
use Rattle.search.specs.Vertices.{Vertex, vertex_at, cost_in, point_in}
use Rattle.search.specs.declared.points.Move.TheVariants.{Reflect, Expand, Half}

module _ (cost : List Float → Float) where
  -- a point with its cost
  abbrev pub vertex_of : List Float → Vertex
  vertex_of p = cost p ∷ p

  -- ---- of vertices in order
  module _ (vs : List Vertex) where
    abbrev pub best : Vertex
    best = vertex_at vs 0

    abbrev pub second_worst : Vertex
    second_worst = vertex_at vs (length vs - 2)

    abbrev pub worst : Vertex
    worst = vertex_at vs (length vs - 1)

    -- a point taken stands in the worst one's place
    abbrev pub taken : Vertex → List Vertex
    taken v = set vs (length vs - 1) v

    -- every vertex but the best goes half the way to it
    unfoldable pub shrunk : List Vertex
    shrunk = best ∷ map (λ (x : Vertex). vertex_of (moved Half (point_in x) (point_in best))) (drop 1 vs)

    -- c is the centroid, r the point reflected
    unfoldable pub expanded : List Float → Vertex → List Vertex
    expanded c r =
        let e = vertex_of (moved Expand c (point_in worst)) in
        taken (cond (lt (cost_in e) (cost_in r)) e r)

    unfoldable pub contracted_out : List Float → Vertex → List Vertex
    contracted_out c r =
        let o = vertex_of (moved Half c (point_in r)) in
        cond (le (cost_in o) (cost_in r)) (taken o) shrunk

    unfoldable pub contracted_in : List Float → List Vertex
    contracted_in c =
        let i = vertex_of (moved Half c (point_in worst)) in
        cond (lt (cost_in i) (cost_in worst)) (taken i) shrunk

    unfoldable pub stepped : List Vertex
    stepped =
        let c = centroid_of vs in
        let r = vertex_of (moved Reflect c (point_in worst)) in
        cond (lt (cost_in r) (cost_in best)) (expanded c r)
        (cond (lt (cost_in r) (cost_in second_worst)) (taken r)
        (cond (lt (cost_in r) (cost_in worst)) (contracted_out c r) (contracted_in c)))
