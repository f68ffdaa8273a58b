-- `fitter::settling::attempt_refusal` meets its contract. Assumes nothing.
use mathlib.Core.List.{[], ◌∷◌}
use mathlib.Core.Path.{◌∙◌}
use borrow.Author.Tests.{le-ltb}
use Rattle.meaning.specs.Rows.{in_order}
use Rattle.meaning.proofs.Chains.{stops}
use Rattle.meaning.proofs.Says.{handed_number, refusal_numbered}
use Rattle.models.specs.Refusals.{spectrum_tests, short_table}
use Rattle.fitter.specs.Attempting.{setup_tests, wrong_lists, wrong_costs}
use Rattle.fitter.specs.Validation.{outside_limit}
use Rattle.fitter.proofs.Cleared.{spectrum-first}
use Rattle.fitter.proofs.settling.attempt_refusal.Goals as goal

pub returns-in_err-spectrum_refusal : goal.returns-in_err-spectrum_refusal
unfolding setup_tests
returns-in_err-spectrum_refusal c =
    let a = c.args in
    let u = a.setup in
    let rest =
    wrong_lists a.survey.wrong ∷ wrong_costs a.survey.bad ∷ outside_limit u.mass_limit
    ∷ short_table u.genome u.window_end a.room ∷ [] in
    let first =
    spectrum-first a.bins.now u.scale u.window_end _ c.if-bins-lt2.false c.if-bins-gt-MOST.false
    c.if-end-gt-MOST.false c.in_err-spectrum_refusal.ensures in
    handed_number _ _ c.from_residual.ensures.1
    ∙ simp
    (le-ltb _ _ c.if-peak-lt2.false, le-ltb _ _ c.if-valley-lt2.false, le-ltb _ _ c.if-bins-lt2.false, le-ltb _ _ c.if-bins-gt-MOST.false, le-ltb _ _ c.if-peak-gt-MOST.false, le-ltb _ _ c.if-valley-gt-MOST.false, le-ltb _ _ c.if-end-gt-MOST.false, le-ltb _ _ c.if-runs-gt-MOST.false)
    (stops (spectrum_tests a.bins.now u.scale u.window_end) (in_order rest) _ first (refusal_numbered _))
