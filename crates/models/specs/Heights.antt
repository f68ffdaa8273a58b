-- How high each component of a fit stands at a count, as models.rs has it, operation by operation.
-- Definitions only. Assumes nothing.
use Rattle.std.specs.Prelude.{ℕ, zero, suc, ◌*◌, List, [], ◌∷◌, ◌++◌, get_or, Float}
use Rattle.std.specs.Float.{nan}
use Rattle.meaning.specs.Reply.{Reply, give, chain}
use Rattle.meaning.specs.Rows.{above_most, too_short}
use Rattle.routines.specs.Exp.{exp_of}
use Rattle.routines.specs.Ops.{◌⊖◌, ◌⊗◌, of_count}
use Rattle.helpers.specs.Lobes.{ln_dnbinom_of}
use Rattle.helpers.specs.Shelves.{ln_single_copy_of}
use Rattle.models.specs.Errors.{log_probability_of}
use Rattle.models.specs.declared.fit.SpectrumFit.{SpectrumFit}
use Rattle.models.specs.declared.height_terms.Heights.{Heights}

abbrev pub height_of : Float → Float → Float → Float → Float
height_of observed weight log mass = observed ⊗ weight ⊗ exp_of (log ⊖ mass)

unfoldable pub heights_at : SpectrumFit → Float → Heights
heights_at fit count =
    let observed = fit.observed_total in
    let masses = fit.component_log_window_masses in
    record {
      error = height_of observed fit.w_error (log_probability_of fit.error_params count) (get_or masses 0 nan);
      single =
          height_of observed fit.w_single (ln_single_copy_of count fit.mean fit.dispersion fit.shelf)
          (get_or masses 1 nan);
      repeat =
          height_of observed fit.w_repeat (ln_dnbinom_of count (fit.repeat_ratio ⊗ fit.mean) fit.dispersion)
          (get_or masses 2 nan);
    }

unfoldable pub component_heights_of : SpectrumFit → ℕ → Reply Heights
component_heights_of fit count = chain (above_most (count ∷ [])) (give (heights_at fit (of_count count)))

-- ---- at each count from 1 on, three numbers for each
abbrev pub height_row : Heights → List Float
height_row h = h.error ∷ h.single ∷ h.repeat ∷ []

unfoldable pub height_rows : (ℕ → Heights) → ℕ → List Float
height_rows h zero = []
height_rows h (suc n) = height_rows h n ++ height_row (h (suc n))

-- `room` is the lent slice's length
unfoldable pub heights_to_of : SpectrumFit → ℕ → ℕ → Reply (List Float)
heights_to_of fit last room =
    chain (above_most (last ∷ []) ++ too_short room (3 * last))
    (give (height_rows (λ (k : ℕ). heights_at fit (of_count k)) last))
