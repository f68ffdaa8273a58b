-- `models::recovery::rounded_quotient` meets its contract. Assumes nothing.
use mathlib.Core.Path.{sym, ap, ◌∙◌}
use native.Mathlib.Omega.{arith}
use lib.Ieee.{to_unsigned}
use Rattle.routines.proofs.Counts.{count-over-one, count-back}
use Rattle.models.specs.Recovery.{rounded_quotient_of}
use Rattle.models.proofs.recovery.rounded_quotient.Goals as goal

pub returns-then-divisor : goal.returns-then-divisor
unfolding rounded_quotient_of
returns-then-divisor c =
    let a = c.args in
    let few = c.ranges.n in
    let whole = count-over-one a.divisor a.n c.if-divisor.true (omega (arith, few)) in
    sym (ap (to_unsigned 32) whole ∙ count-back 32 a.n (omega (arith, few)) (omega (arith, few)))

pub returns : goal.returns
unfolding rounded_quotient_of
returns c = rw (c.to_u32.ensures, c.round.ensures)
