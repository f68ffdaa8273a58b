-- `models::errors::ErrorParams::log_window_mass` meets its contract. Assumes nothing.
use mathlib.Core.List.{[]}
use mathlib.Core.Path.{◌∙◌}
use Rattle.meaning.proofs.Says.{handed_on}
use Rattle.helpers.proofs.WindowEnds.{window_refused, window_given, window_count}
use Rattle.models.specs.Errors.{log_window_mass_of}
use Rattle.models.proofs.errors.ErrorParams.log_window_mass.Goals as goal

pub returns-in_err-end : goal.returns-in_err-end
unfolding log_window_mass_of
returns-in_err-end c = handed_on _ _ c.from_residual.ensures.1 ∙ window_refused _ [] _ _ c.in_err-end.ensures

pub returns : goal.returns
unfolding log_window_mass_of
returns c =
    let given = c.in_ok-end.ensures in
    rw (c.log_window_mass_to.ensures, c.count.ensures, window_count _ _ given) (window_given _ [] _ _ given)
