-- A run's state out of the slice that holds its rows and its progress. Definitions only. Assumes nothing.
use Rattle.std.specs.Prelude.{ℕ, Bool, ◌||◌, List, leb, Float}
use Rattle.search.specs.Turns.{State}
use Rattle.search.specs.Vertices.{rows_in}
use Rattle.search.specs.declared.turns.Progress.{Progress}

abbrev pub state_of : ℕ → List Float → Progress → State
state_of w rows p = record { vertices = rows_in w w rows; iterations = p.iterations; stopped = p.stopped }

abbrev pub ended_at : ℕ → Progress → Bool
ended_at cap p = p.stopped || leb cap p.iterations
