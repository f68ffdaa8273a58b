-- From a converged list to a fit, as models.rs has it, operation by operation. Definitions only. Assumes nothing.
use Rattle.std.specs.Prelude.{ℕ, List, [], ◌∷◌, length, Float, None}
use Rattle.std.specs.Float.Ieee.{neg}
use Rattle.meaning.specs.Over.{over}
use Rattle.meaning.specs.Reply.{Reply, refuse, broken, give, chain}
use Rattle.meaning.specs.Lent.{on_give}
use Rattle.routines.specs.Constants.{zero}
use Rattle.routines.specs.Exp.{exp_of}
use Rattle.routines.specs.Ln.{ln_of}
use Rattle.routines.specs.Ops.{◌⊕◌, ◌⊖◌, ◌⊗◌, of_count}
use Rattle.models.specs.Deviances.{two, deviance_of}
use Rattle.models.specs.Families.{list_length_of}
use Rattle.models.specs.Masses.{entries_of, window_masses_of}
use Rattle.models.specs.Params.{params_of}
use Rattle.models.specs.Refusals.{fit_tests}
use Rattle.models.specs.Spectra.{window_of}
use Rattle.models.specs.declared.families.ErrorModel.{ErrorModel}
use Rattle.models.specs.declared.families.ErrorModel.TheVariants.{FreeSingletonWeibull}
use Rattle.models.specs.declared.families.GenomeModel.{GenomeModel}
use Rattle.models.specs.declared.families.GenomeModel.TheVariants.{NegativeBinomial}
use Rattle.models.specs.declared.fit.SpectrumFit.{SpectrumFit}
use Rattle.models.specs.declared.params.Params.{Params}
use Rattle.models.specs.declared.spectra.Window.{Window}
use Rattle.models.specs.declared.window_masses.WindowMasses.{WindowMasses}

abbrev pub log_total : Float → Float → Float → Float
log_total weight library mass = weight ⊕ library ⊖ mass

unfoldable pub fit_with : Window → ErrorModel → GenomeModel → Params → WindowMasses → Float → ℕ → Float → SpectrumFit
fit_with window error genome p m cost iterations deviance =
    let library = window.observed ⊗ window.scale in
    let total_error = log_total p.ln_error (ln_of library) m.error in
    let total_single = log_total p.ln_single (ln_of library) m.single in
    let total_repeat = log_total p.ln_repeat (ln_of library) m.repeat in
    record {
      error_model = error;
      genome_model = genome;
      w_error = exp_of p.ln_error;
      w_single = exp_of p.ln_single;
      w_repeat = exp_of p.ln_repeat;
      mean = p.mean;
      dispersion = p.dispersion;
      target_mode = p.target_mode;
      error_params = p.error_params;
      shelf = p.shelf;
      repeat_ratio = p.repeat_ratio;
      genome_kmers = exp_of total_single;
      error_kmers = exp_of total_error;
      repeat_kmers = exp_of total_repeat;
      log_likelihood = neg cost;
      bic = two ⊗ cost ⊕ of_count (list_length_of error genome) ⊗ ln_of window.observed;
      deviance = deviance;
      fit_window_end = window.end;
      best_iterations = iterations;
      component_log_window_masses = m.error ∷ m.single ∷ m.repeat ∷ [];
      component_log_totals = total_error ∷ total_single ∷ total_repeat ∷ [];
      observed_total = library;
      full_distinct_total = window.full;
    }

-- the deviance reads the rest, with 0 in its own place
unfoldable pub fit_of : List ℕ → Window → ErrorModel → GenomeModel → Params → WindowMasses → Float → ℕ → SpectrumFit
fit_of bins window error genome p m cost iterations =
    let fit = fit_with window error genome p m cost iterations in
    fit (deviance_of bins window.scale window.end (fit zero))

unfoldable pub fit_at : List ℕ → Window → ErrorModel → GenomeModel → Params → List Float → Float → ℕ → SpectrumFit
fit_at bins window error genome p entries cost iterations =
    fit_of bins window error genome p (window_masses_of p entries window.end) cost iterations

-- the fit beside a number
unfoldable pub empty_fit : SpectrumFit
empty_fit =
    record {
      error_model = FreeSingletonWeibull;
      genome_model = NegativeBinomial;
      w_error = zero;
      w_single = zero;
      w_repeat = zero;
      mean = zero;
      dispersion = zero;
      target_mode = zero;
      error_params = record { singleton_probability = zero; tail_exponent = zero; weibull_shape = None };
      shelf = None;
      repeat_ratio = zero;
      genome_kmers = zero;
      error_kmers = zero;
      repeat_kmers = zero;
      log_likelihood = zero;
      bic = zero;
      deviance = zero;
      fit_window_end = 0;
      best_iterations = 0;
      component_log_window_masses = zero ∷ zero ∷ zero ∷ [];
      component_log_totals = zero ∷ zero ∷ zero ∷ [];
      observed_total = zero;
      full_distinct_total = zero;
    }

abbrev pub fit_in : Reply SpectrumFit → SpectrumFit
fit_in (refuse n) = empty_fit
fit_in (broken place) = empty_fit
fit_in (give f) = f

-- `room` is the lent table's length: nothing else of it is read
unfoldable pub unpack_of : List ℕ → Float → ℕ → ℕ → ErrorModel → GenomeModel → List Float → Float → ℕ → ℕ
    → Reply SpectrumFit
unpack_of bins scale end peak error genome list cost iterations room =
    let p = params_of error genome (of_count peak) list in
    chain (fit_tests bins scale end peak error genome (length list) room)
    (give (fit_at bins (window_of bins scale end) error genome p (entries_of p.shelf p.mean end) cost iterations))

-- what stands in the table afterwards
unfoldable pub unpack_table : List ℕ → Float → ℕ → ℕ → ErrorModel → GenomeModel → List Float → Float → ℕ → List Float
    → List Float
unpack_table bins scale end peak error genome list cost iterations held =
    let p = params_of error genome (of_count peak) list in
    on_give (unpack_of bins scale end peak error genome list cost iterations (length held))
    (over (entries_of p.shelf p.mean end) held) held
