-- The loop adds a vertex's point in each turn.
use Prim.Native.Nat.{◌+◌, ◌-◌}
use Rattle.meaning.proofs.Loops.{Folded}
use Rattle.search.specs.Simplex.{vertices_in}
use Rattle.search.specs.Vertices.{vertex_at, point_in}
use Rattle.search.proofs.Centroids.{added}
use Rattle.search.proofs.points.centroid.Given as goal

abbrev pub invariant-loop-i : goal.invariant-loop-i
invariant-loop-i l =
    let vs = vertices_in l.simplex in
    Folded (added vs) (point_in (vertex_at vs 0)) 1 (1 + (l.n - 1)) l.point l.i
