-- `routines::whole::ceil_small` meets its contract. n is the whole part of x, and is one short of the ceiling exactly
-- where n is less than x.
-- Assumes nothing.
use Rattle.std.proofs.Common.{ℕ, ◌^◌, ◌<◌, false, sym, ap, ◌∙◌, subst, arith}
use lib.Ieee.{binary64, round}
use Rattle.routines.proofs.Sizes.{cut_small, of_int_is, up_one, as_is}
use Rattle.routines.proofs.whole.ceil_small.Goals as goal

pub truncating_f64_to_u64-n-requires : goal.truncating_f64_to_u64-n-requires
truncating_f64_to_u64-n-requires c =
    let k = cut_small c.args.x c.requires.fact_1 c.requires.fact_2 in record { lower_bound = k.0; upper_bound = k.1 }

pub overflow_add-n : goal.overflow_add-n
overflow_add-n c =
    let k = cut_small c.args.x c.requires.fact_1 c.requires.fact_2 in
    let n = c.truncating_f64_to_u64-n in
    let few : n.result < 2 ^ 53 = subst (λ (n : ℕ). n < 2 ^ 53) (sym (n.ensures ∙ k.2)) k.3 in
    omega arith

pub returns-then-t-x : goal.returns-then-t-x
returns-then-t-x c =
    let k = cut_small c.args.x c.requires.fact_1 c.requires.fact_2 in
    let n = c.truncating_f64_to_u64-n in
    let t = c.nearest_u64_to_f64-t in
    let few = subst (λ (n : ℕ). n < 2 ^ 53) (sym (n.ensures ∙ k.2)) k.3 in
    c.nearest_u64_to_f64.ensures
    ∙ of_int_is _
    ∙ ap (λ (k : ℕ). round binary64 false k 1)
    (up_one c.args.x t.result _ c.requires.fact_1 (n.ensures ∙ k.2) few (t.ensures ∙ of_int_is _) c.if-t-x.true)

pub returns-else-t-x : goal.returns-else-t-x
returns-else-t-x c =
    let k = cut_small c.args.x c.requires.fact_1 c.requires.fact_2 in
    let n = c.truncating_f64_to_u64-n in
    let t = c.nearest_u64_to_f64-t in
    let few = subst (λ (n : ℕ). n < 2 ^ 53) (sym (n.ensures ∙ k.2)) k.3 in
    t.ensures
    ∙ of_int_is _
    ∙ ap (λ (k : ℕ). round binary64 false k 1)
    (as_is c.args.x t.result _ c.requires.fact_1 (n.ensures ∙ k.2) few (t.ensures ∙ of_int_is _) c.if-t-x.false)
