-- `record::answers::least_removed` meets its contract. Assumes nothing.
use mathlib.Core.Path.{◌≡◌, ap, ◌∙◌}
use Prim.Native.Nat.{ℕ}
use lib.Ieee.{Float}
use Rattle.routines.specs.Ops.{◌⊕◌}
use Rattle.models.specs.ClaimsCutoff.{running}
use Rattle.models.specs.Cutoffs.{probability_in}
use Rattle.models.specs.WalkHoists.{probability_of}
use Rattle.models.proofs.Walks.{probability-is}
use Rattle.record.proofs.answers.least_removed.Goals as goal

pub returns : goal.returns
unfolding running
returns c =
    let fit = c.args.fit in
    let same : probability_of c.single_copy_of-single.result ≡ probability_in fit = ap probability_of c.single_copy_of-single.ensures
    ∙ probability-is fit in
    ap (λ (x : Float). x ⊕ c.probability.result)
    (c.probability-none.ensures ∙ ap (λ (p : ℕ → Float). p 0) same)
    ∙ ap (λ (x : Float). probability_in fit 0 ⊕ x) (c.probability.ensures ∙ ap (λ (p : ℕ → Float). p 1) same)
