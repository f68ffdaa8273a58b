-- `models::modes::step` meets its contract. Assumes nothing.
use mathlib.Core.Path.{◌≡◌, ◌∙◌}
use mathlib.Core.Bool.{false}
use native.Mathlib.Omega.{arith}
use borrow.Author.Tests.{ne_eqb}
use lib.Ieee.{eq}
use Rattle.routines.specs.Constants.{one}
use Rattle.routines.specs.Ops.{of_count}
use Rattle.routines.proofs.Counts.{count-equals-one}
use Rattle.models.specs.Hoists.{log_probability_between}
use Rattle.models.proofs.Outdone.{unmoved}
use Rattle.models.proofs.modes.step.Goals as goal

pub returns-then-outdone : goal.returns-then-outdone
unfolding log_probability_between
returns-then-outdone c =
    let a = c.args in
    let known = c.outdone.ensures c.if-outdone.true in
    let later : eq (of_count a.count) one ≡ false =
    count-equals-one a.count (omega (arith, c.ranges.count)) ∙ ne_eqb a.count 1 (λ (z : a.count ≡ 1). omega (arith, z, known.0)) in
    rw later (unmoved a.best a.count _ known.1)
