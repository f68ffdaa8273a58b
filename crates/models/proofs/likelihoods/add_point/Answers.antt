-- `models::likelihoods::add_point` meets its contract. Assumes nothing.
use mathlib.Core.Path.{ap, ◌∙◌}
use native.Mathlib.Omega.{arith}
use borrow.Author.Tests.{eq-eqb, ne_eqb}
use lib.Ieee.{Float}
use Rattle.routines.specs.Ops.{◌⊕◌, ◌⊗◌, of_count}
use Rattle.models.specs.Spectra.{seen_term}
use Rattle.models.proofs.Points.{step_is, next-stands}
use Rattle.models.proofs.likelihoods.add_point.Goals as goal

pub returns-then-n-eq0 : goal.returns-then-n-eq0
unfolding seen_term
returns-then-n-eq0 c = record {
  total_value = simp (eq-eqb _ _ c.if-n-eq0.true);
  ahead_value_2 = c.requires.ahead_value;
}

pub returns : goal.returns
unfolding seen_term
returns c =
    let a = c.args in
    let few = c.ranges.i in
    let here = c.ahead_at-here.ensures in
    let next = c.ahead_after-next.ensures in
    let term = c.point-term.ensures
    ∙ step_is a.p a.m a.steady a.ready.now a.table.now a.i _ _ _ (omega (arith, few)) here next c.gamma_at-gamma.ensures in record {
      total_value = simp (ne_eqb _ _ c.if-n-eq0.false) (ap (λ (x : Float). a.reached.total ⊕ of_count a.n ⊗ x) term);
      ahead_value_2 = next-stands a.p.error_params a.ready.now a.i _ _ here next;
    }
