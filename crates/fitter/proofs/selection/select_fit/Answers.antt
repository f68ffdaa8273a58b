-- `fitter::selection::select_fit` meets its contract. Assumes nothing.
use Prim.Native.Nat.{◌≤◌, ◌<◌}
use lib.ListN.{length}
use mathlib.Core.Path.{◌≡◌, ◌∙◌}
use native.Mathlib.Omega.{arith}
use Rattle.fitter.proofs.Selecting.{selected-none, selected-more, selected-all}
use Rattle.fitter.proofs.selection.select_fit.Goals as goal

pub loop-attempt-init : goal.loop-attempt-init
loop-attempt-init c = selected-none c.args.attempts

pub loop-attempt-preserved : goal.loop-attempt-preserved
loop-attempt-preserved c =
    let four : length c.args.attempts ≡ 4 = c.well_formed.0.1.0.1 in
    let l : c.loop-attempt.attempt-index < length c.args.attempts = omega (arith, c.loop-attempt-test.true) in
    selected-more c.args.attempts c.loop-attempt.attempt-index _ _ _ c.replace-best.ensures c.loop-attempt.invariant l

pub returns : goal.returns
returns c =
    let four : length c.args.attempts ≡ 4 = c.well_formed.0.1.0.1 in
    let l : length c.args.attempts ≤ c.loop-attempt.attempt-index = omega (arith, c.loop-attempt-test.false) in
    c.loop-attempt.invariant ∙ selected-all c.args.attempts c.loop-attempt.attempt-index l
