-- `models::walk::all_probable` meets its contract. Assumes nothing.
use mathlib.Core.Path.{◌≡◌, sym, ap, ◌∙◌}
use mathlib.Core.Bool.{true}
use Prim.Native.Nat.{ℕ, suc, ◌+◌}
use native.Mathlib.Omega.{arith}
use lib.Ieee.{Float, le}
use Rattle.routines.specs.Constants.{two}
use Rattle.helpers.specs.declared.single_copies.SingleCopy.{SingleCopy}
use Rattle.models.specs.WalkHoists.{probability_of}
use Rattle.models.specs.Walk.{probable, all_probable}
use Rattle.models.proofs.Walks.{exp-probable, all-begins, all-goes, all-stops}
use Rattle.models.proofs.walk.all_probable.Goals.{Else-not-probability}
use Rattle.models.proofs.walk.all_probable.Goals as goal

-- the code tests one side alone
one_side : (single : SingleCopy) (k : ℕ) (p : Float) → p ≡ probability_of single k
    → probable (probability_of single k) ≡ le p two
one_side single k p e = exp-probable _ ∙ ap (λ (x : Float). le x two) (sym e)

pub loop-count-init : goal.loop-count-init
loop-count-init c = all-begins (probability_of c.args.single)

pub returns-then-not-probability : goal.returns-then-not-probability
returns-then-not-probability c =
    let a = c.args in
    sym (all-stops (probability_of a.single) c.loop-count.count (suc a.ceiling) (omega arith)
    (one_side a.single c.loop-count.count _ c.probability.ensures ∙ c.if-not-probability.true))

-- one more count
went : (c : Else-not-probability) → all_probable (probability_of c.args.single) (c.loop-count.count + 1) ≡ true
went c =
    let a = c.args in
    all-goes (probability_of a.single) c.loop-count.count c.loop-count.invariant
    (one_side a.single c.loop-count.count _ c.probability.ensures ∙ c.if-not-probability.false)

pub loop-count-preserved : goal.loop-count-preserved
loop-count-preserved c = went (goal.at.loop-count-preserved c).Else-not-probability

pub returns-else-not-probability : goal.returns-else-not-probability
returns-else-not-probability c =
    let at = (goal.at.returns-else-not-probability c).Else-not-probability in
    let a = at.args in
    let all : at.loop-count.count + 1 ≡ suc a.ceiling = omega arith in
    sym (ap (all_probable (probability_of a.single)) (sym all) ∙ went at)
