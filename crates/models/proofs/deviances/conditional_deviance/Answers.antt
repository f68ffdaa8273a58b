-- `models::deviances::conditional_deviance` meets its contract. What the loop carries stands ready for its count, or for
-- an earlier one. Assumes nothing.
use mathlib.Core.Path.{◌≡◌, refl, sym, ap, ◌∙◌, fun_ext}
use mathlib.Core.List.{List}
use Prim.Native.Nat.{ℕ}
use native.Mathlib.Omega.{arith}
use lib.Ieee.{Float, neg, of_bits}
use Rattle.meaning.proofs.Loops.{begins, goes_on, ends}
use Rattle.models.specs.Deviances.{deviance_of}
use Rattle.models.specs.HeightTerms.{height_terms_of, ready_of}
use Rattle.models.specs.Spectra.{over_observed, seen_term}
use Rattle.models.specs.declared.deviances.Ready.{Ready}
use Rattle.models.specs.declared.fit.SpectrumFit.{SpectrumFit}
use Rattle.models.proofs.HeightTerms.{terms-heights}
use Rattle.models.proofs.deviances.conditional_deviance.Invariants.{term_from}
use Rattle.models.proofs.deviances.conditional_deviance.Goals as goal

from-terms : (bins : List ℕ) (scale : Float) (top : ℕ) (fit : SpectrumFit)
    → over_observed bins scale top (term_from (height_terms_of fit) scale) ≡ deviance_of bins scale top fit
unfolding deviance_of
from-terms bins scale top fit =
    ap (over_observed bins scale top) (fun_ext (λ (n : ℕ). fun_ext (λ (i : ℕ). rw (terms-heights))))

pub loop-i-init : goal.loop-i-init
unfolding neg of_bits
loop-i-init c =
    let first = c.ready_of.ensures in
    let p = c.height_terms-t.result.error_params in (
      first ∙ ap (λ (r : Ready). ready_of p r.count) (sym first),
      begins _ _ _ _ _ (omega arith) refl,
    )

pub loop-i-preserved : goal.loop-i-preserved
loop-i-preserved c =
    let turn = c.loop-i in
    let scale = c.args.scale in (
      c.add_deviance-reached.ensures.ready_value_2,
      goes_on _ _ _ _ turn.invariant.1 _ (omega arith)
          (c.add_deviance-reached.ensures.total_value
          ∙ ap (λ (n : ℕ). seen_term n turn.reached.total (term_from c.height_terms-t.result scale n turn.i))
          c.recovered_at-n.ensures),
    )

pub returns : goal.returns
unfolding over_observed
returns c =
    ends _ _ _ _ c.loop-i.invariant.1 (omega arith)
    ∙ rw c.height_terms-t.ensures (from-terms _ _ _ _)
