-- What a run has come to out of what is stored of it, and that a run table's columns are the slices that are lent.
-- Definitions only. Assumes nothing.
use Rattle.std.specs.Prelude.{ℕ, ◌≡◌}
use Rattle.search.specs.Reporting.{found_at}
use Rattle.search.specs.declared.reporting.Found.{Found}
use Rattle.search.specs.declared.reporting.Stored.{Stored}
use Rattle.search.specs.declared.reporting.Table.{Table}

abbrev pub found_in : ℕ → ℕ → ℕ → Stored → ℕ → Found
found_in w cap runs s = found_at w cap runs s.simplexes.now s.iterations.now s.stopped.now

pub record IsLent (t u : Table) : Type 0 where
  pub converged : u.converged.ghost_name ≡ t.converged.ghost_name
  pub costs : u.costs.ghost_name ≡ t.costs.ghost_name
  pub places : u.places.ghost_name ≡ t.places.ghost_name
  pub lengths : u.lengths.ghost_name ≡ t.lengths.ghost_name
  pub caps : u.caps.ghost_name ≡ t.caps.ghost_name
