-- The row so far is the cheapest of those passed.
use Prim.Native.Nat.{◌<◌}
use Rattle.meaning.proofs.Loops.{Folded}
use Rattle.search.specs.Vertices.{rows_in}
use Rattle.search.proofs.Reported.{lesser}
use Rattle.search.proofs.reporting.least_row.Given as goal

abbrev pub invariant-loop-i : goal.invariant-loop-i
invariant-loop-i l = Folded (lesser (rows_in l.w l.w l.rows)) 0 1 l.w l.least l.i × (l.least < l.w)
