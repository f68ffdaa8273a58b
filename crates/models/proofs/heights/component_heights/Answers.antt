-- `models::heights::component_heights` meets its contract. Assumes nothing.
use mathlib.Core.Path.{ap}
use Rattle.meaning.specs.Reply.{give}
use borrow.Author.Tests.{lt-ltb, le-ltb}
use Rattle.models.specs.Heights.{component_heights_of}
use Rattle.models.proofs.heights.component_heights.Goals as goal

pub returns-then-count-gt-MOST : goal.returns-then-count-gt-MOST
unfolding component_heights_of
returns-then-count-gt-MOST c = simp (lt-ltb _ _ c.if-count-gt-MOST.true)

pub returns : goal.returns
unfolding component_heights_of
returns c = simp (le-ltb _ _ c.if-count-gt-MOST.false) (ap give c.heights_at.ensures)
