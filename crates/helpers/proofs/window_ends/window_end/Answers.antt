-- `helpers::window_ends::window_end` meets its contract. Assumes nothing.
use borrow.Author.Tests.{lt-ltb, le-ltb, eq-eqb, ne_eqb}
use Rattle.helpers.specs.WindowEnds.{window_end_of}
use Rattle.helpers.proofs.window_ends.window_end.Goals as goal

pub returns-then-count-gt-MOST : goal.returns-then-count-gt-MOST
unfolding window_end_of
returns-then-count-gt-MOST c = simp (lt-ltb _ _ c.if-count-gt-MOST.true)

pub returns-then-count-eq0 : goal.returns-then-count-eq0
unfolding window_end_of
returns-then-count-eq0 c = simp (le-ltb _ _ c.if-count-gt-MOST.false, eq-eqb _ _ c.if-count-eq0.true)

pub returns : goal.returns
unfolding window_end_of
returns c = simp (le-ltb _ _ c.if-count-gt-MOST.false, ne_eqb _ _ c.if-count-eq0.false)
