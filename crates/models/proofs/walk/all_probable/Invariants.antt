-- `models::walk::all_probable` meets its contract. Assumes nothing.
use mathlib.Core.Path.{◌≡◌}
use mathlib.Core.Bool.{true}
use Rattle.models.specs.WalkHoists.{probability_of}
use Rattle.models.specs.Walk.{all_probable}
use Rattle.models.proofs.walk.all_probable.Given as goal

abbrev pub invariant-loop-count : goal.invariant-loop-count
invariant-loop-count l = all_probable (probability_of l.single) l.count ≡ true
