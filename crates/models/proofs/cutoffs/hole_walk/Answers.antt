-- `models::cutoffs::hole_walk` meets its contract. Assumes nothing.
use mathlib.Core.Path.{ap, ◌∙◌}
use Prim.Native.Nat.{ℕ}
use lib.Ieee.{Float}
use Rattle.models.specs.WalkHoists.{probability_of}
use Rattle.models.specs.Walk.{walk_of}
use Rattle.models.specs.Cutoffs.{probability_in, allowed_of, hole_ceiling, hole_walk_of}
use Rattle.models.proofs.Walks.{probability-is}
use Rattle.models.proofs.cutoffs.hole_walk.Goals as goal

pub returns : goal.returns
unfolding hole_walk_of
returns c =
    let a = c.args in
    let share = allowed_of a.fit a.budget in
    let top = c.ceiling-top.ensures ∙ ap (hole_ceiling a.fit.mean) (c.count.ensures ∙ c.requires) in
    c.walk.ensures
    ∙ ap (λ (p : ℕ → Float). walk_of p share c.ceiling-top.result)
    (ap probability_of c.single_copy_of-single.ensures ∙ probability-is a.fit)
    ∙ ap (walk_of (probability_in a.fit) share) top
