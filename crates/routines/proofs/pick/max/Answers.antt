-- `routines::pick::max` meets its contract. Each arm returns what `max_of` picks where the tests are as the arm found
-- them. Assumes nothing.
use Rattle.std.proofs.Common.{sym, ◌∙◌}
use Rattle.routines.specs.Pick.{max_of}
use Rattle.routines.proofs.Picks.{skips, takes}
use Rattle.routines.proofs.pick.max.Goals as goal

pub returns-then-is_nan : goal.returns-then-is_nan
unfolding max_of
returns-then-is_nan c = skips _ _ _ (sym c.is_nan.ensures.value ∙ c.if-is_nan.true)

pub returns-else-a-b : goal.returns-else-a-b
unfolding max_of
returns-else-a-b c = rw c.if-a-b.false (takes _ _ _ (sym c.is_nan.ensures.value ∙ c.if-is_nan.false))
