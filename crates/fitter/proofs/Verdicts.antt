-- Verdicts that say the same are the same; a fit is valid exactly when none of the ten rules applies; and rule 4 tests the
-- logarithm of the components' total ratio. Assumes nothing.
use Prim.Native.Nat.{ℕ, zero, suc}
use mathlib.Core.Path.{◌≡◌, refl, sym, ap, ◌∙◌}
use mathlib.Core.Bool.{true, false, true≢false}
use mathlib.Core.List.{List, [], ◌∷◌}
use native.Mathlib.Omega.{arith}
use lib.Ieee.{Float}
use Rattle.meaning.specs.Reply.{Test, test, first_of}
use Rattle.meaning.proofs.Chains.{numbered}
use Rattle.std.specs.Prelude.{Option, None, Some}
use Rattle.routines.specs.Exp.{exp_of}
use Rattle.models.specs.Fits.{total_ratio_of}
use Rattle.models.specs.declared.fit.SpectrumFit.{SpectrumFit}
use Rattle.fitter.specs.Validation.{valid, rejected, judgement_at, rules, verdict_of, reason_number, reason_at}
use Rattle.fitter.specs.Validation.{judgement_in, excess_of, NoRule}
use Rattle.fitter.specs.declared.rejections.FitRejection.{FitRejection}
use Rattle.fitter.specs.declared.rejections.FitRejection.TheVariants as reason

-- ---- verdicts
pub there_and_back : (why : FitRejection) → reason_at (reason_number why) ≡ why
there_and_back reason.OptimisationFailed = refl
there_and_back reason.NonFiniteLikelihood = refl
there_and_back reason.InvalidComponents = refl
there_and_back reason.InvalidWindowMass = refl
there_and_back reason.ComponentMassExceeded = refl
there_and_back reason.UnstableModeParameterisation = refl
there_and_back reason.GenomeLobeOutsideFitWindow = refl
there_and_back reason.ErrorModePastValley = refl
there_and_back reason.PrimaryModeOutsideBand = refl
there_and_back reason.RepeatModeTooEarly = refl
there_and_back reason.PositiveLogLikelihood = refl

pub reason-same : (a b : FitRejection) → reason_number a ≡ reason_number b → a ≡ b
reason-same a b e = sym (there_and_back a) ∙ ap reason_at e ∙ there_and_back b

valid-not-rejected : {n : ℕ} → valid ≡ rejected n → ⊥
valid-not-rejected e = let z : ◌≡◌ {A = ℕ} 0 1 = cc in omega arith

same-reason : {m n : ℕ} → rejected m ≡ rejected n → m ≡ n
same-reason e = cc

pub judgement-same : (a b : Option FitRejection) → judgement_in a ≡ judgement_in b → a ≡ b
judgement-same None None e = refl
judgement-same None (Some w) e = absurd (valid-not-rejected e)
judgement-same (Some v) None e = absurd (valid-not-rejected (sym e))
judgement-same (Some v) (Some w) e = ap Some (reason-same v w (same-reason e))

-- ---- a valid fit
judged-valid : (n : ℕ) → judgement_at n ≡ valid → 0 ≡ n
judged-valid zero e = refl
judged-valid (suc n) e = absurd (valid-not-rejected (sym e))

not-suc : (n : ℕ) → 0 ≡ suc n → ⊥
not-suc n e = omega arith

-- no test of a chain holds
abbrev Clear : List Test → Type 0
Clear [] = Unit {0}
Clear (test b n ∷ ts) = (b ≡ false) × Clear ts

all-clear : (ts : List Test) → numbered ts ≡ true → 0 ≡ first_of ts → Clear ts
all-clear [] p e = tt
all-clear (test true zero ∷ ts) p e = absurd (true≢false (sym p))
all-clear (test true (suc m) ∷ ts) p e = absurd (not-suc m e)
all-clear (test false zero ∷ ts) p e = absurd (true≢false (sym p))
all-clear (test false (suc m) ∷ ts) p e = (refl, all-clear ts p e)

module _ (fit : SpectrumFit) (valley peak : ℕ) (limit : Float) where
  clear : verdict_of fit valley peak limit ≡ valid → Clear (rules fit valley peak limit)
  unfolding verdict_of
  clear e =
      let ts = rules fit valley peak limit in
      all-clear ts refl (judged-valid (first_of ts) e)

  pub valid-none : verdict_of fit valley peak limit ≡ valid → NoRule fit valley peak limit
  valid-none e =
      let from2 = (clear e).1 in
      let from4 = from2.1.1 in
      let from6 = from4.1.1 in
      let from8 = from6.1.1 in
      let from10 = from8.1.1 in
      record {
        rule1 = (clear e).0;
        rule2 = from2.0;
        rule3 = from2.1.0;
        rule4 = from4.0;
        rule5 = from4.1.0;
        rule6 = from6.0;
        rule7 = from6.1.0;
        rule8 = from8.0;
        rule9 = from8.1.0;
        rule10 = from10.0;
      }

  pub none-valid : NoRule fit valley peak limit → verdict_of fit valley peak limit ≡ valid
  unfolding verdict_of
  none-valid n =
      rw (n.rule1, n.rule2, n.rule3, n.rule4, n.rule5, n.rule6, n.rule7, n.rule8, n.rule9, n.rule10)

-- ---- rule 4
pub ratio-of-excess : (fit : SpectrumFit) → total_ratio_of fit ≡ exp_of (excess_of fit)
unfolding total_ratio_of excess_of
ratio-of-excess fit = refl
