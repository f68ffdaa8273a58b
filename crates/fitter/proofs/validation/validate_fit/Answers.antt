-- `fitter::validation::validate_fit` meets its contract. Assumes nothing.
use mathlib.Core.Bool.{true}
use mathlib.Core.Path.{◌≡◌, refl, sym, ap, ◌∙◌}
use Prim.Native.Nat.{ℕ}
use lib.Ieee.{Float}
use Rattle.meaning.specs.Reply.{give}
use Rattle.meaning.proofs.Chains.{numbered, chain-refused, chain-passed}
use Rattle.meaning.proofs.Says.{handed_as, refusal_numbered}
use Rattle.fitter.specs.Validation.{judgement_in, validate_tests, validate_of}
use Rattle.fitter.proofs.validation.validate_fit.Goals as goal

numbers : (end valley peak : ℕ) (limit : Float) → numbered (validate_tests end valley peak limit) ≡ true
unfolding validate_tests
numbers end valley peak limit = refl

pub returns-in_err-validate_refusal : goal.returns-in_err-validate_refusal
unfolding validate_of
returns-in_err-validate_refusal c =
    let a = c.args in
    handed_as judgement_in _ _ c.from_residual.ensures.1
    ∙ sym (chain-refused _ (validate_tests a.fit.fit_window_end a.valley a.peak a.mass_limit) _
    c.in_err-validate_refusal.ensures (refusal_numbered _))

pub returns : goal.returns
unfolding validate_of
returns c =
    let a = c.args in
    ap give c.judge.ensures
    ∙ sym (chain-passed _ (validate_tests a.fit.fit_window_end a.valley a.peak a.mass_limit) (numbers _ _ _ _)
    c.in_ok-validate_refusal.ensures)
