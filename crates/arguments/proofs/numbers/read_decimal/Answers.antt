-- `arguments::numbers::read_decimal` meets its contract. Assumes nothing.
use Prim.Native.Nat.{ℕ, ◌+◌, ◌≤◌}
use mathlib.Core.Path.{sym, ap, ◌∙◌}
use native.Mathlib.Nat.{sub-zero}
use native.Mathlib.Omega.{arith}
use lib.ListN.{length, take}
use lib.Seq.{drop-length}
use Rattle.arguments.specs.Numbers.{before, quotient_of, read_decimal_of}
use Rattle.arguments.proofs.Words.{front, back, plain, rest}
use Rattle.arguments.proofs.numbers.read_decimal.Goals as goal

pub returns-then-point-word : goal.returns-then-point-word
unfolding read_decimal_of
returns-then-point-word c =
    let word = c.args.word.now in
    let k = c.point_at-point.result in
    let e = c.point_at-point.ensures in
    let whole = ap (λ (j : ℕ). take j word) (sub-zero k) ∙ front word k e c.if-point-word.true in
    let places = rest word (k + 1) ∙ back word k e c.if-point-word.true in
    c.quotient.ensures ∙ (λ i. quotient_of (whole i) (places i))

pub returns : goal.returns
unfolding read_decimal_of
returns c =
    let word = c.args.word.now in
    let e = c.point_at-point.ensures in
    let h : length word ≤ length (before word) = omega arith in
    let no-point = plain word h in
    let places = rest word (length word) ∙ drop-length word ∙ sym no-point.1 in
    c.quotient-2.ensures ∙ (λ i. quotient_of (sym no-point.0 i) (places i))
