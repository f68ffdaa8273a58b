-- The points that an iteration works out, coordinate by coordinate, each operation rounded once: document 02, ask 6.
-- Definitions only. Assumes nothing.
use Rattle.std.specs.Prelude.{ℕ, ◌-◌, List, [], ◌∷◌, map, length, Float}
use Rattle.meaning.specs.Fold.{fold}
use Rattle.routines.specs.Constants.{half, two}
use Rattle.routines.specs.Ops.{◌⊕◌, ◌⊖◌, ◌⊗◌, ◌⊘◌, of_count}
use Rattle.search.specs.Vertices.{Vertex, vertex_at, point_in}
use Rattle.search.specs.declared.points.Move.{Move}
use Rattle.search.specs.declared.points.Move.TheVariants.{Sum, Reflect, Expand, Half}

-- a coordinate and the same one of another point
abbrev pub moved_of : Move → Float → Float → Float
moved_of Sum x y = x ⊕ y
moved_of Reflect c w = c ⊕ (c ⊖ w)
moved_of Expand c w = c ⊕ two ⊗ (c ⊖ w)
moved_of Half x y = x ⊕ half ⊗ (y ⊖ x)

-- each coordinate; both points have the same number
unfoldable pub moved : Move → List Float → List Float → List Float
moved how [] ys = []
moved how (x ∷ xs) [] = []
moved how (x ∷ xs) (y ∷ ys) = moved_of how x y ∷ moved how xs ys

-- the centroid of all vertices but the last: their points are added in order, and then divided by their number
unfoldable pub centroid_of : List Vertex → List Float
centroid_of vs =
    let n = length vs - 1 in
    let total = fold (λ (i : ℕ) (sum : List Float). moved Sum sum (point_in (vertex_at vs i))) 1 n (point_in (vertex_at vs 0)) in
    map (λ (x : Float). x ⊘ of_count n) total
