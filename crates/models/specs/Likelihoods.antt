-- The log-likelihood of the window, as models.rs has it, operation by operation. Definitions only. Assumes nothing.
use Rattle.std.specs.Prelude.{ℕ, ◌+◌, List, Float}
use Rattle.routines.specs.Ops.{◌⊕◌, ◌⊖◌, ◌⊗◌, of_count}
use Rattle.helpers.specs.Lobes.{ln_dnbinom_of}
use Rattle.helpers.specs.LogSums.{lse3_of}
use Rattle.helpers.specs.Shelves.{mix_single_copy_of}
use Rattle.models.specs.Errors.{log_probability_of}
use Rattle.models.specs.Spectra.{over_observed}
use Rattle.models.specs.declared.params.Params.{Params}
use Rattle.models.specs.declared.window_masses.WindowMasses.{WindowMasses}

-- from the log densities of the two lobes
unfoldable pub point_with : Params → WindowMasses → Float → Float → Float → List Float → Float
point_with p m lobe second count table =
    lse3_of (p.ln_error ⊕ log_probability_of p.error_params count ⊖ m.error)
    (p.ln_single ⊕ mix_single_copy_of lobe count p.shelf table ⊖ m.single)
    (p.ln_repeat ⊕ second ⊖ m.repeat)

abbrev pub point_of : Params → WindowMasses → List Float → Float → Float
point_of p m table count =
    point_with p m (ln_dnbinom_of count p.mean p.dispersion)
    (ln_dnbinom_of count (p.repeat_ratio ⊗ p.mean) p.dispersion) count table

-- bin i holds count i + 1
abbrev pub point_term : Params → WindowMasses → List Float → ℕ → ℕ → Float
point_term p m table n i = of_count n ⊗ point_of p m table (of_count (i + 1))

unfoldable pub likelihood_of : List ℕ → Float → ℕ → Params → WindowMasses → List Float → Float
likelihood_of bins scale end p m table = over_observed bins scale end (point_term p m table)
