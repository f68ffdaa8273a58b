-- `helpers::log_sums::lse3` meets its contract. Assumes nothing.
use mathlib.Core.Path.{sym, ap, ◌∙◌, subst}
use lib.Ieee.Scale.{finite}
use Rattle.routines.proofs.Levels.{exp-level}
use Rattle.helpers.specs.LogSums.{lse3_of}
use Rattle.helpers.proofs.Weights.{Least, max-of-two, weights-least}
use Rattle.helpers.proofs.log_sums.lse3.Goals as goal

pub returns-then-c-m : goal.returns-then-c-m
unfolding lse3_of
returns-then-c-m c =
    let known = sym c.is_finite.ensures ∙ c.if-is_finite.true in
    let third = sym (exp-level _ _ c.if-c-m.true known) in
    rw (sym c.max.ensures, sym c.max-m.ensures, known, third)
    (rw (c.with_log.ensures, c.beside_one.ensures))

pub weights-requires : goal.weights-requires
weights-requires c =
    let known = sym c.is_finite.ensures ∙ c.if-is_finite.true in
    let same = max-of-two _ _ _ _ _ c.max.ensures c.max-m.ensures known c.if-c-m.false in
    sym (ap finite same) ∙ known

pub added-requires : goal.added-requires
added-requires c =
    let known = sym c.is_finite.ensures ∙ c.if-is_finite.true in
    let same = max-of-two _ _ _ _ _ c.max.ensures c.max-m.ensures known c.if-c-m.false in
    subst Least (sym c.weights.ensures) (weights-least _ _ (sym (ap finite same) ∙ known))

pub returns-then-is_finite : goal.returns-then-is_finite
unfolding lse3_of
returns-then-is_finite c =
    let known = sym c.is_finite.ensures ∙ c.if-is_finite.true in
    let same = max-of-two _ _ _ _ _ c.max.ensures c.max-m.ensures known c.if-c-m.false in
    rw (sym c.max.ensures, sym c.max-m.ensures, known)
    (rw (c.with_log-then-is_finite.ensures, c.added.ensures, c.weights.ensures, sym same))
