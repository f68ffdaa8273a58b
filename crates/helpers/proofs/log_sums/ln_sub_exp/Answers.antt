-- `helpers::log_sums::ln_sub_exp` meets its contract. Assumes nothing.
use mathlib.Core.Path.{sym, ◌∙◌}
use Rattle.routines.proofs.Patterns.{nan-is}
use lib.Ieee.{div, neg, of_bits}
use Rattle.helpers.specs.LogSums.{ln_sub_exp_of}
use Rattle.helpers.proofs.log_sums.ln_sub_exp.Goals as goal

pub returns-then-high : goal.returns-then-high
unfolding ln_sub_exp_of div neg of_bits
returns-then-high c = rw c.if-high.true

pub returns-then-low-high : goal.returns-then-low-high
unfolding ln_sub_exp_of div neg of_bits
returns-then-low-high c = rw (c.if-high.false, c.if-low-high.true)

pub returns-then-is_nan : goal.returns-then-is_nan
unfolding ln_sub_exp_of div neg of_bits
returns-then-is_nan c =
    let differs = sym (nan-is c.args.low) ∙ sym c.is_nan.ensures.value ∙ c.if-is_nan.true in
    rw (c.if-high.false, c.if-low-high.false, differs)

pub returns : goal.returns
unfolding ln_sub_exp_of div neg of_bits
returns c =
    let same = sym (nan-is c.args.low) ∙ sym c.is_nan.ensures.value ∙ c.if-is_nan.false in
    rw (c.if-high.false, c.if-low-high.false, same) (rw (c.ln.ensures, c.expm1.ensures))
