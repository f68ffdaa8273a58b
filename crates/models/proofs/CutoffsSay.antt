-- Answers of the cutoffs that say the same are the same. Assumes nothing.
use mathlib.Core.Path.{◌≡◌}
use Rattle.models.specs.Cutoffs.{sure_says}
use Rattle.models.specs.declared.cutoffs.SureCutoff.{SureCutoff}
use Rattle.models.specs.declared.cutoffs.SureCutoff.TheVariants as surely

pub sure-same : (a b : SureCutoff) → sure_says a ≡ sure_says b → a ≡ b
sure-same (surely.Sure c) (surely.Sure d) e = cc
sure-same (surely.Sure c) (surely.NotSure d) e = cc
sure-same (surely.Sure c) surely.NoWalk e = cc
sure-same (surely.NotSure c) (surely.Sure d) e = cc
sure-same (surely.NotSure c) (surely.NotSure d) e = cc
sure-same (surely.NotSure c) surely.NoWalk e = cc
sure-same surely.NoWalk (surely.Sure d) e = cc
sure-same surely.NoWalk (surely.NotSure d) e = cc
sure-same surely.NoWalk surely.NoWalk e = cc
