-- `models::height_cutoffs::error_floor_cutoff` meets its contract. Assumes nothing.
use mathlib.Core.Path.{ap, ◌∙◌}
use mathlib.Core.List.{[]}
use Rattle.meaning.proofs.Says.{handed_on}
use Rattle.helpers.proofs.WindowEnds.{window_refused, window_given, window_count}
use Rattle.models.specs.HeightCutoffs.{errors_in, reference_of, last_bad_of, error_floor_of}
use Rattle.models.proofs.HeightCutoffs.{floor-of-terms}
use Rattle.models.proofs.height_cutoffs.error_floor_cutoff.Goals as goal

pub returns-in_err-end : goal.returns-in_err-end
unfolding error_floor_of
returns-in_err-end c = handed_on _ _ c.from_residual.ensures.1 ∙ window_refused _ [] _ _ c.in_err-end.ensures

pub returns : goal.returns
unfolding error_floor_of
returns c =
    let last =
    floor-of-terms c.args.fit _ c.height_terms-t.ensures _ _ _ _ _ c.primary_mode.ensures
    c.from_u64.ensures c.single_height-reference.ensures
    c.last_bad.ensures ∙ ap (last_bad_of (errors_in c.args.fit) (reference_of c.args.fit)) (c.count.ensures ∙ window_count _ _ c.in_ok-end.ensures) in
    rw (c.floor_behind.ensures, last) (window_given _ [] _ _ c.in_ok-end.ensures)
