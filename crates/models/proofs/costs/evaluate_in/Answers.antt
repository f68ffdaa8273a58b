-- `models::costs::evaluate_in` meets its contract. Assumes nothing.
use mathlib.Core.Path.{sym, ◌∙◌}
use lib.Ieee.{div, of_bits}
use Rattle.models.proofs.Costed.{not_finite, above_zero, at-most-zero, masses-stop, likelihood-stops, evaluates}
use Rattle.models.proofs.costs.evaluate_in.Goals as goal
use Rattle.models.proofs.costs.evaluate_in.Goals.{else-is_finite-via-then-is_finite+else-total}
use Rattle.models.proofs.costs.evaluate_in.Goals.{else-is_finite-via-else-is_finite}

pub returns-then-not-masses_usable : goal.returns-then-not-masses_usable
unfolding div of_bits
returns-then-not-masses_usable c =
    masses-stop _ _ _ _ _ _ _ _ c.steady_of-steady.ensures c.masses_at-m.ensures.value
    (sym c.masses_usable.ensures ∙ c.if-not-masses_usable.true)

pub likelihood-total-requires : goal.likelihood-total-requires
likelihood-total-requires c = rw c.count.ensures c.masses_at-m.ensures.kept

pub returns-then-total : goal.returns-then-total
returns-then-total c =
    evaluates _ _ _ _ _ _ _ _ c.steady_of-steady.ensures c.masses_at-m.ensures.value c.likelihood-total.result
    (rw (c.likelihood-total.ensures, c.count.ensures))
    (sym c.masses_usable.ensures ∙ c.if-not-masses_usable.false)
    (at-most-zero _ (sym c.is_finite.ensures ∙ c.if-is_finite.true) c.if-total.true)

pub returns : goal.returns
unfolding div of_bits
returns c =
    let finite = sym c.is_finite.ensures in
    likelihood-stops _ _ _ _ _ _ _ _ c.steady_of-steady.ensures c.masses_at-m.ensures.value c.likelihood-total.result
    (rw (c.likelihood-total.ensures, c.count.ensures))
    (sym c.masses_usable.ensures ∙ c.if-not-masses_usable.false)
    (elim c.else-is_finite.branch [
      | else-is_finite-via-then-is_finite+else-total w ↦ above_zero _ (finite ∙ w.if-is_finite.true) w.if-total.false
      | else-is_finite-via-else-is_finite w ↦ not_finite _ (finite ∙ w.if-is_finite.false)
    ])
