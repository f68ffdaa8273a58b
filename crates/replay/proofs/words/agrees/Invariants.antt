-- `replay::words::agrees` meets its contract: it says yes only where the row is as long, and agrees at every place.
-- Assumes nothing.
use Prim.Native.Nat.{ℕ, ◌<◌}
use lib.ListN.{get_or}
use Rattle.replay.specs.Agree.{Same}
use Rattle.replay.proofs.words.agrees.Given as goal

abbrev pub invariant-loop-i : goal.invariant-loop-i
invariant-loop-i l = (k : ℕ) → k < l.i → Same (get_or l.ours k 0) (get_or l.row k 0)
