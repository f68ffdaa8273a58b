-- `models::height_terms::heights_of` meets its contract. Assumes nothing.
use Rattle.models.specs.HeightTerms.{error_height_of, single_height_of, repeat_height_of, heights_of}
use Rattle.models.proofs.height_terms.heights_of.Goals as goal

pub returns : goal.returns
unfolding heights_of error_height_of single_height_of repeat_height_of
returns c =
    rw (c.heights_from.ensures, c.lgamma.ensures)
    (rw (c.log_survival_from_two-next.ensures, c.log_survival_from_two-here.ensures))
