-- `fitter::settling::settle` meets its contract. Assumes nothing.
use mathlib.Core.Path.{refl, ◌∙◌}
use Rattle.meaning.proofs.Says.{handed_on, refusal_numbered}
use Rattle.fitter.proofs.Judgements.{from-not, from-not-not}
use Rattle.fitter.proofs.Settlement.{settled-refused, settled-none, settled-some}
use Rattle.fitter.proofs.settling.settle.Goals as goal

pub returns-in_err-attempt_refusal : goal.returns-in_err-attempt_refusal
returns-in_err-attempt_refusal c =
    let a = c.args in record {
      value =
          handed_on _ _ c.from_residual.ensures.1
          ∙ settled-refused a.bins.now a.setup a.runs a.survey a.lists.now _ _ c.in_err-attempt_refusal.ensures
          (refusal_numbered _);
      table_unchanged = refl;
    }

pub returns-then-not-least : goal.returns-then-not-least
returns-then-not-least c =
    let a = c.args in record {
      value =
          rw c.unheld.ensures
          (settled-none a.bins.now a.setup a.runs a.survey a.lists.now _ 0 c.in_ok-attempt_refusal.ensures refl
          (from-not c.if-not-least.true));
      table_unchanged = refl;
    }

pub returns : goal.returns
returns c =
    let a = c.args in record {
      value =
          rw (c.is_unrejected.ensures, c.judge_run-judged.ensures.value)
          (settled-some a.bins.now a.setup a.runs a.survey a.lists.now _ 0 c.in_ok-attempt_refusal.ensures refl
          (from-not-not c.if-not-least.false));
      table_unchanged = c.judge_run-judged.ensures.table_unchanged;
    }
