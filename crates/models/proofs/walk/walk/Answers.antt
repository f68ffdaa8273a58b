-- `models::walk::walk` meets its contract. The invariant: what is left of the walk, from the count on and with the sum
-- so far, is the whole walk. Assumes nothing.
use mathlib.Core.Path.{sym, ap, ◌∙◌}
use Rattle.std.specs.Prelude.{Some}
use Prim.Native.Nat.{◌+◌, ◌-◌}
use native.Mathlib.Omega.{arith}
use lib.Ieee.{Float, lt}
use Rattle.routines.specs.Ops.{◌⊕◌}
use Rattle.models.specs.WalkHoists.{probability_of}
use Rattle.models.specs.Walk.{walk_from}
use Rattle.models.proofs.Walks.{walk-starts, walk_ends, walk-hits, walk-goes}
use Rattle.models.proofs.walk.walk.Goals as goal

pub loop-count-init : goal.loop-count-init
loop-count-init c =
    let a = c.args in
    let p = probability_of a.single in
    walk-starts p a.allowed a.ceiling
    ∙ ap (walk_from p a.allowed (a.ceiling - 1) 1) (sym c.probability-cdf.ensures)

pub returns-then-next-allowed : goal.returns-then-next-allowed
returns-then-next-allowed c =
    let a = c.args in
    let turn = c.loop-count in
    sym
    (turn.invariant
    ∙ walk-hits (probability_of a.single) a.allowed a.ceiling turn.count turn.cdf (omega arith)
    (ap (λ (x : Float). lt a.allowed (turn.cdf ⊕ x)) (sym c.probability.ensures) ∙ c.if-next-allowed.true)
    ∙ ap Some (sym c.at_least_two.ensures))

pub loop-count-preserved : goal.loop-count-preserved
loop-count-preserved c =
    let a = c.args in
    let turn = c.loop-count in
    let p = probability_of a.single in
    turn.invariant
    ∙ walk-goes p a.allowed a.ceiling turn.count turn.cdf (omega arith)
    (ap (λ (x : Float). lt a.allowed (turn.cdf ⊕ x)) (sym c.probability.ensures) ∙ c.if-next-allowed.false)
    ∙ ap (λ (x : Float). walk_from p a.allowed (a.ceiling - (turn.count + 1)) (turn.count + 1) (turn.cdf ⊕ x))
    (sym c.probability.ensures)

pub returns : goal.returns
returns c =
    let a = c.args in
    let turn = c.loop-count in
    sym
    (turn.invariant
    ∙ walk_ends (probability_of a.single) a.allowed a.ceiling turn.count turn.cdf (omega arith))
