-- The terms of a fit give its heights: each of the three, and all of them. Assumes nothing.
use mathlib.Core.Path.{◌≡◌, refl, ap}
use lib.ListN.{get_or}
use lib.Ieee.{Float, nan}
use Rattle.helpers.specs.SingleCopies.{single_density_of}
use Rattle.helpers.proofs.SingleCopies.{lobe-density-is, single-density-is}
use Rattle.models.specs.Errors.{log_probability_of}
use Rattle.models.specs.Heights.{height_of, heights_at}
use Rattle.models.specs.HeightTerms.{height_terms_of, error_height_from, error_height_of, single_height_with}
use Rattle.models.specs.HeightTerms.{single_height_of, repeat_height_with, repeat_height_of, heights_of}
use Rattle.models.specs.Hoists.{log_probability_between}
use Rattle.models.specs.declared.fit.SpectrumFit.{SpectrumFit}

module _ (fit : SpectrumFit) (count : Float) where
  pub terms-error : error_height_of (height_terms_of fit) count ≡ (heights_at fit count).error
  unfolding error_height_of error_height_from height_terms_of heights_at log_probability_between log_probability_of
  terms-error = refl

  pub terms-single : single_height_of (height_terms_of fit) count ≡ (heights_at fit count).single
  unfolding single_height_of single_height_with height_terms_of heights_at single_density_of
  terms-single =
      let mass = get_or fit.component_log_window_masses 1 nan in
      ap (λ (log : Float). height_of fit.observed_total fit.w_single log mass)
      (single-density-is count fit.mean fit.dispersion fit.shelf)

  pub terms-repeat : repeat_height_of (height_terms_of fit) count ≡ (heights_at fit count).repeat
  unfolding repeat_height_of repeat_height_with height_terms_of heights_at
  terms-repeat = rw (lobe-density-is)

  pub terms-heights : heights_of (height_terms_of fit) count ≡ heights_at fit count
  unfolding heights_of
  terms-heights = rw (terms-error, terms-single, terms-repeat)
