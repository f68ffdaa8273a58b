-- How C has what a search judges a list by: it reads neither valley nor mass limit. Definitions only. Assumes nothing.
use Rattle.std.specs.Prelude.{ℕ, Float}
use Rattle.models.specs.declared.problems.Problem.{Problem}
use Rattle.routines.specs.Constants.{one}
use Rattle.exports.specs.FlatTables.{setup_of}

abbrev pub problem_of : Float → ℕ → ℕ → ℕ → ℕ → Problem
problem_of scale end peak error genome = setup_of scale end 2 peak error genome one
