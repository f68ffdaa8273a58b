-- `fitter::turns::settle_empty` meets its contract. Assumes nothing.
use mathlib.Core.List.{[]}
use mathlib.Core.Path.{refl, ap, ◌∙◌}
use Rattle.meaning.specs.Reply.{first_of}
use Rattle.meaning.proofs.Says.{handed_on, refusal_numbered}
use Rattle.fitter.specs.Attempting.{survey_tests}
use Rattle.fitter.specs.Surveys.{no_survey}
use Rattle.fitter.specs.Turns.{empty_settled}
use Rattle.fitter.specs.declared.surveys.Survey.{Survey}
use Rattle.fitter.proofs.Settlement.{settled-refused, settled-none}
use Rattle.fitter.proofs.turns.settle_empty.Goals as goal

pub returns-in_err-attempt_refusal : goal.returns-in_err-attempt_refusal
unfolding empty_settled
returns-in_err-attempt_refusal c =
    let a = c.args in
    let number = c.in_err-attempt_refusal.ensures
    ∙ ap (λ (s : Survey). first_of (survey_tests a.bins.now a.setup 0 s a.room)) c.no_survey.ensures in
    handed_on _ _ c.from_residual.ensures.1
    ∙ settled-refused a.bins.now a.setup 0 no_survey [] a.room _ number (refusal_numbered _)

pub returns : goal.returns
unfolding empty_settled
returns c =
    let a = c.args in
    let number = c.in_ok-attempt_refusal.ensures
    ∙ ap (λ (s : Survey). first_of (survey_tests a.bins.now a.setup 0 s a.room)) c.no_survey.ensures in
    rw c.unheld.ensures (settled-none a.bins.now a.setup 0 no_survey [] a.room 0 number refl refl)
