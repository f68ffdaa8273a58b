-- `arguments::numbers::value_of` meets its contract: at each turn the value of the rest, behind the value so far, is
-- that of the whole. Assumes nothing.
use mathlib.Core.Path.{sym, ◌∙◌}
use native.Mathlib.Numerals.{add-one}
use native.Mathlib.Omega.{arith}
use Rattle.arguments.proofs.Values.{digit-here, value-at, value-next}
use Rattle.arguments.proofs.numbers.value_of.Goals as goal

pub overflow_mul-value : goal.overflow_mul-value
overflow_mul-value c =
    let l = c.loop-digit in
    let n = value-next c.args.digits.now l.digit-index l.value c.loop-digit-test.true in
    let e = l.invariant.1 in
    let h = c.requires.1 in
    omega arith

pub overflow_sub-digit : goal.overflow_sub-digit
overflow_sub-digit c = (digit-here c.args.digits.now c.loop-digit.digit-index c.loop-digit-test.true c.loop-digit.invariant.0).0

pub overflow_add-value : goal.overflow_add-value
overflow_add-value c =
    let l = c.loop-digit in
    let n = value-next c.args.digits.now l.digit-index l.value c.loop-digit-test.true in
    let e = l.invariant.1 in
    let h = c.requires.1 in
    omega arith

pub loop-digit-preserved : goal.loop-digit-preserved
loop-digit-preserved c =
    let l = c.loop-digit in
    let k = l.digit-index in
    let digits = c.args.digits.now in (
      rw (add-one k) (digit-here digits k c.loop-digit-test.true l.invariant.0).1,
      rw (add-one k, c.from.ensures) (sym (value-at digits k c.loop-digit-test.true l.value) ∙ l.invariant.1),
    )
