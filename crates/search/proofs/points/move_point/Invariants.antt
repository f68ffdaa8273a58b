-- `search::points::move_point` meets its contract. Assumes nothing.
use Prim.Native.Nat.{ℕ}
use lib.ListN.{get_or}
use lib.Ieee.{Float, nan}
use Rattle.search.specs.Points.{moved_of}
use Rattle.search.proofs.Elements.{Passed}
use Rattle.search.proofs.points.move_point.Given as goal

abbrev pub invariant-loop-j : goal.invariant-loop-j
invariant-loop-j l = Passed (λ (i : ℕ) (x : Float). moved_of l.how x (get_or l.other i nan)) nan l.initial.point l.point l.j
