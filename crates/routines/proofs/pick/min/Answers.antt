-- `routines::pick::min` meets its contract. Each arm returns what `min_of` picks where the tests are as the arm found
-- them. Assumes nothing.
use Rattle.std.proofs.Common.{sym, ◌∙◌}
use Rattle.routines.specs.Pick.{min_of}
use Rattle.routines.proofs.Picks.{skips, takes}
use Rattle.routines.proofs.pick.min.Goals as goal

pub returns-then-is_nan : goal.returns-then-is_nan
unfolding min_of
returns-then-is_nan c = skips _ _ _ (sym c.is_nan.ensures.value ∙ c.if-is_nan.true)

pub returns-else-b-a : goal.returns-else-b-a
unfolding min_of
returns-else-b-a c = rw c.if-b-a.false (takes _ _ _ (sym c.is_nan.ensures.value ∙ c.if-is_nan.false))
