-- How C has the numbers of an attempt, in one struct. Definitions only. Assumes nothing.
use Rattle.models.specs.declared.problems.Problem.{Problem}
use Rattle.exports.specs.FlatTables.{setup_of}
use Rattle.exports.specs.declared.run_slices.FlatSetup.{FlatSetup}

abbrev pub setup_from : FlatSetup → Problem
setup_from s =
    setup_of s.scale s.window_end s.valley s.peak s.error s.genome s.mass_limit
