-- `models::refusals::table_refusal` meets its contract. Assumes nothing.
use mathlib.Core.Path.{◌∙◌}
use Rattle.meaning.proofs.Says.{handed_number}
use Rattle.helpers.proofs.WindowEnds.{window_number, window_none}
use Rattle.models.specs.Refusals.{short_table}
use Rattle.models.proofs.refusals.table_refusal.Goals as goal

pub returns-in_err-window_end : goal.returns-in_err-window_end
returns-in_err-window_end c =
    handed_number _ _ c.from_residual.ensures.1
    ∙ window_number (short_table c.args.genome c.args.window_end c.args.room) _ _ c.in_err-window_end.ensures

pub returns : goal.returns
returns c =
    c.short_refusal.ensures ∙ window_none (short_table c.args.genome c.args.window_end c.args.room) _ _ c.in_ok-window_end.ensures
