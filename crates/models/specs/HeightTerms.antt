-- For speed alone: what the heights of a fit have in common at every count, and each height from it.
-- Nothing here has to be held beside the Rust: `terms-heights` in proofs/HeightTerms.antt shows that the terms of a fit
-- give the heights of specs/Heights.antt. Definitions only. Assumes nothing.
use Rattle.std.specs.Prelude.{ℕ, get_or, Float}
use Rattle.std.specs.Float.{nan}
use Rattle.routines.specs.Constants.{one}
use Rattle.routines.specs.Exp.{exp_of}
use Rattle.routines.specs.Lgamma.{lgamma_of}
use Rattle.routines.specs.Ln.{ln_of}
use Rattle.routines.specs.Ops.{◌⊕◌, ◌⊖◌, ◌⊗◌, of_count}
use Rattle.helpers.specs.Hoists.{density_with, lobe_of}
use Rattle.helpers.specs.SingleCopies.{single_copy_of, single_density_with}
use Rattle.models.specs.Errors.{ln_tail_of, survival_of}
use Rattle.models.specs.Hoists.{log_probability_between}
use Rattle.models.specs.declared.deviances.Ready.{Ready}
use Rattle.models.specs.declared.errors.ErrorParams.{ErrorParams}
use Rattle.models.specs.declared.fit.SpectrumFit.{SpectrumFit}
use Rattle.models.specs.declared.height_terms.HeightTerms.{HeightTerms}
use Rattle.models.specs.declared.height_terms.Heights.{Heights}

unfoldable pub height_terms_of : SpectrumFit → HeightTerms
height_terms_of fit =
    let masses = fit.component_log_window_masses in
    record {
      error_params = fit.error_params;
      ln_tail = ln_tail_of fit.error_params;
      single = single_copy_of fit.mean fit.dispersion fit.shelf;
      repeat = lobe_of (fit.repeat_ratio ⊗ fit.mean) fit.dispersion;
      error_inside = fit.observed_total ⊗ fit.w_error;
      single_inside = fit.observed_total ⊗ fit.w_single;
      repeat_inside = fit.observed_total ⊗ fit.w_repeat;
      error_mass = get_or masses 0 nan;
      single_mass = get_or masses 1 nan;
      repeat_mass = get_or masses 2 nan;
    }

abbrev pub scaled_of : Float → Float → Float → Float
scaled_of inside log mass = inside ⊗ exp_of (log ⊖ mass)

-- ---- each height: `here` and `next` stand for the log survivals of the count and of the next, `gamma` for
-- lgamma(count + 1)
unfoldable pub error_height_from : HeightTerms → Float → Float → Float → Float
error_height_from t count here next =
    scaled_of t.error_inside (log_probability_between t.error_params t.ln_tail count here next)
    t.error_mass

unfoldable pub error_height_of : HeightTerms → Float → Float
error_height_of t count =
    error_height_from t count (survival_of t.error_params count) (survival_of t.error_params (count ⊕ one))

unfoldable pub single_height_with : HeightTerms → Float → Float → Float
single_height_with t count gamma =
    scaled_of t.single_inside (single_density_with t.single count gamma) t.single_mass

unfoldable pub single_height_of : HeightTerms → Float → Float
single_height_of t count = single_height_with t count (lgamma_of (count ⊕ one))

unfoldable pub repeat_height_with : HeightTerms → Float → Float → Float
repeat_height_with t count gamma =
    scaled_of t.repeat_inside (density_with t.repeat count gamma) t.repeat_mass

unfoldable pub repeat_height_of : HeightTerms → Float → Float
repeat_height_of t count = repeat_height_with t count (lgamma_of (count ⊕ one))

-- ---- the three
abbrev pub heights_from : HeightTerms → Float → Float → Float → Float → Heights
heights_from t count here next gamma =
    record {
      error = error_height_from t count here next;
      single = single_height_with t count gamma;
      repeat = repeat_height_with t count gamma;
    }

unfoldable pub heights_of : HeightTerms → Float → Heights
heights_of t count =
    record { error = error_height_of t count; single = single_height_of t count; repeat = repeat_height_of t count }

-- ---- over the counts of a window: what a count leaves ready for the next
abbrev pub ready_of : ErrorParams → ℕ → Ready
ready_of p count = record { count = count; log = ln_of (of_count count); survival = survival_of p (of_count count) }
