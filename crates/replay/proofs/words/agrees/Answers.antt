-- `replay::words::agrees` meets its contract: it says yes only where the row is as long, and agrees at every place.
-- Assumes nothing.
use borrow.Author.Count.{below_more}
use Rattle.replay.proofs.words.agrees.Goals as goal

pub loop-i-preserved : goal.loop-i-preserved
loop-i-preserved c =
    let yes = c.if-not-same.false in
    let agreed = rw c.word.ensures at (c.same.ensures yes) in
    below_more _ _ c.loop-i.invariant agreed
