-- `routines::whole::round_small` meets its contract. Twice x is exact, and its whole part, one more, halved, is x to
-- the nearest whole number (`Sizes`).
-- Assumes nothing.
use Rattle.std.proofs.Common.{ℕ, ◌+◌, ◌/◌, ◌^◌, ◌<◌, false, sym, ap, ◌∙◌, subst, arith}
use lib.Ieee.{binary64, round}
use lib.Ieee.Positive.{num, den, den_pos}
use Rattle.routines.proofs.Tests.{yes}
use Rattle.routines.proofs.Sizes.{cut-double, half-up-is, of_int_is}
use Rattle.routines.proofs.whole.round_small.Goals as goal

pub truncating_f64_to_u64-halves-requires : goal.truncating_f64_to_u64-halves-requires
truncating_f64_to_u64-halves-requires c =
    let k = cut-double c.args.x (yes c.well_formed.0.1) c.requires.fact_1 c.requires.fact_2 in
    record { lower_bound = k.0; upper_bound = k.1 }

pub overflow_add-halves : goal.overflow_add-halves
overflow_add-halves c =
    let k = cut-double c.args.x (yes c.well_formed.0.1) c.requires.fact_1 c.requires.fact_2 in
    let halves = c.truncating_f64_to_u64-halves in
    let few : halves.result < 2 ^ 53 = subst (λ (n : ℕ). n < 2 ^ 53) (sym (halves.ensures ∙ k.2)) k.3 in
    omega arith

pub returns : goal.returns
returns c =
    let x = c.args.x in
    let k = cut-double x (yes c.well_formed.0.1) c.requires.fact_1 c.requires.fact_2 in
    c.nearest_u64_to_f64.ensures
    ∙ of_int_is _
    ∙ ap (λ (n : ℕ). round binary64 false n 1)
    (ap (λ (n : ℕ). (n + 1) / 2) (c.truncating_f64_to_u64-halves.ensures ∙ k.2) ∙ half-up-is (num x) (den x) (den_pos x))
