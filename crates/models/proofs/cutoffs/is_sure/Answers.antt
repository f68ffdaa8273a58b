-- `models::cutoffs::is_sure` meets its contract. Assumes nothing.
use mathlib.Core.Path.{sym, ap, ◌∙◌}
use Prim.Native.Nat.{ℕ, suc}
use lib.Ieee.{Float}
use Rattle.models.specs.WalkHoists.{probability_of}
use Rattle.models.specs.Walk.{all_probable}
use Rattle.models.specs.Cutoffs.{probability_in, hole_ceiling, sure_of}
use Rattle.models.proofs.Walks.{probability-is}
use Rattle.models.proofs.cutoffs.is_sure.Goals as goal

pub returns-then-not-is_finite : goal.returns-then-not-is_finite
unfolding sure_of
returns-then-not-is_finite c = rw (sym c.is_finite.ensures ∙ c.if-not-is_finite.true)

pub returns : goal.returns
unfolding sure_of
returns c =
    let a = c.args in
    let top = c.ceiling-top.ensures ∙ ap (hole_ceiling a.fit.mean) (c.count.ensures ∙ c.requires) in
    rw (sym c.is_finite.ensures ∙ c.if-not-is_finite.false)
    (c.all_probable.ensures
    ∙ ap (λ (p : ℕ → Float). all_probable p (suc c.ceiling-top.result))
    (ap probability_of c.single_copy_of-single.ensures ∙ probability-is a.fit)
    ∙ ap (λ (n : ℕ). all_probable (probability_in a.fit) (suc n)) top)
