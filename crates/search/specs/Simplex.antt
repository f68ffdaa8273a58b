-- The vertices of a simplex in a lent slice, the state of its run, and what stays as it is when the simplex changes.
-- Definitions only. Assumes nothing.
use Rattle.std.specs.Prelude.{◌≡◌, List}
use Rattle.search.specs.Turns.{State}
use Rattle.search.specs.Vertices.{Vertex, rows_in}
use Rattle.search.specs.declared.rows.Simplex.{Simplex}
use Rattle.search.specs.declared.turns.Progress.{Progress}

unfoldable pub vertices_in : Simplex → List Vertex
vertices_in s = rows_in s.w s.w s.rows.now

abbrev pub state_in : Simplex → Progress → State
state_in s p = record { vertices = vertices_in s; iterations = p.iterations; stopped = p.stopped }

-- as many rows, in the slice that is lent
pub record IsSame (s t : Simplex) : Type 0 where
  pub wide : t.w ≡ s.w
  pub lent : t.rows.ghost_name ≡ s.rows.ghost_name
