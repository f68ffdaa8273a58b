-- `search::points::divide` meets its contract. Assumes nothing.
use Prim.Native.Nat.{ℕ}
use lib.Ieee.{Float, nan}
use Rattle.routines.specs.Ops.{◌⊘◌}
use Rattle.search.proofs.Elements.{Passed}
use Rattle.search.proofs.points.divide.Given as goal

abbrev pub invariant-loop-x : goal.invariant-loop-x
invariant-loop-x l = Passed (λ (i : ℕ) (x : Float). x ⊘ l.by) nan l.initial.point l.point l.x-index
