-- `models::deviances::add_deviance` meets its contract. Assumes nothing.
use Prim.Native.Nat.{◌+◌, ◌≤◌}
use mathlib.Core.Path.{ap, ◌∙◌}
use native.Mathlib.Omega.{arith}
use borrow.Author.Tests.{eq-eqb, ne_eqb}
use lib.Ieee.{Float}
use Rattle.routines.specs.Ops.{◌⊕◌, of_count}
use Rattle.models.specs.Deviances.{expected_of, deviance_term}
use Rattle.models.specs.Spectra.{seen_term}
use Rattle.models.specs.declared.deviances.Ready.{Ready}
use Rattle.models.specs.declared.height_terms.Heights.{Heights}
use Rattle.models.proofs.Survivals.{with-log, next-survival, heights-from-is}
use Rattle.models.proofs.deviances.add_deviance.Goals as goal

pub returns-then-n-eq0 : goal.returns-then-n-eq0
unfolding seen_term
returns-then-n-eq0 c = record {
  total_value = simp (eq-eqb _ _ c.if-n-eq0.true);
  ready_value_2 = c.requires.ready_value;
}

pub returns : goal.returns
unfolding seen_term
returns c =
    let a = c.args in
    let few : a.i + 1 ≤ 65535 = omega (arith, c.requires.i_bound) in
    let ready = c.ready_at-here.ensures in
    let survives =
    next-survival (a.i + 1) few _ _ _ c.survival_with-next.ensures (ap (λ (r : Ready). r.log) ready) in
    let same =
    c.heights_from-h.ensures
    ∙ heights-from-is (a.i + 1) few _ _ a.t (ap (λ (r : Ready). r.survival) ready) survives _
    (c.lgamma_with-gamma.ensures ∙ with-log _ _ c.ln-log.ensures) in
    let wanted = c.expected_of.ensures ∙ ap (λ (h : Heights). expected_of h a.scale) same in record {
      total_value = simp (ne_eqb _ _ c.if-n-eq0.false)
          (ap (λ (x : Float). a.reached.total ⊕ x) (c.deviance_term.ensures ∙ ap (deviance_term (of_count a.n)) wanted));
      ready_value_2 = rw (c.ln-log.ensures, survives);
    }
