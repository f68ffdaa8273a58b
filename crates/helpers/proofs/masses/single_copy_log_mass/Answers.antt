-- `helpers::masses::single_copy_log_mass` meets its contract. Assumes nothing.
use mathlib.Core.Path.{◌∙◌}
use mathlib.Core.List.{[]}
use Rattle.meaning.proofs.Says.{handed_on}
use Rattle.helpers.specs.Masses.{single_copy_log_mass_of}
use Rattle.helpers.proofs.WindowEnds.{window_refused, window_given, window_count}
use Rattle.helpers.proofs.masses.single_copy_log_mass.Goals as goal

pub returns-in_err-end : goal.returns-in_err-end
unfolding single_copy_log_mass_of
returns-in_err-end c = handed_on _ _ c.from_residual.ensures.1 ∙ window_refused _ [] _ _ c.in_err-end.ensures

pub returns : goal.returns
unfolding single_copy_log_mass_of
returns c =
    let given = c.in_ok-end.ensures in
    rw (c.single_copy_log_mass_to.ensures, window_count _ _ given) (window_given _ [] _ _ given)
