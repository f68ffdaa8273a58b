-- How C has a fit and what is read off one. Definitions only. Assumes nothing.
use Rattle.std.specs.Prelude.{Option}
use Rattle.meaning.specs.Numbers as number
use Rattle.meaning.specs.Onward.{number_said}
use Rattle.meaning.specs.Reply.{Reply, refuse, broken, give}
use Rattle.routines.specs.Constants as constants
use Rattle.helpers.specs.declared.shelves.Shelf.{Shelf}
use Rattle.models.specs.Parts.{error_number, genome_number, error_of, genome_of, shape_there, shape_number, shape_of}
use Rattle.models.specs.Parts.{shelf_there, shelf_held}
use Rattle.models.specs.Unpacking.{fit_in}
use Rattle.models.specs.declared.errors.ErrorParams.{ErrorParams}
use Rattle.models.specs.declared.fit.SpectrumFit.{SpectrumFit}
use Rattle.models.specs.declared.height_terms.Heights.{Heights}
use Rattle.exports.specs.Flat.{part_of}
use Rattle.exports.specs.declared.answers.FlatHeights.{FlatHeights}
use Rattle.exports.specs.declared.costs.FlatFitAnswer.{FlatFitAnswer}
use Rattle.exports.specs.declared.fits.FlatErrors.{FlatErrors}
use Rattle.exports.specs.declared.fits.FlatFit.{FlatFit}
use Rattle.exports.specs.declared.shelf.FlatShelf.{FlatShelf}

-- ---- what C hands in
abbrev pub errors_of : FlatErrors → ErrorParams
errors_of e = record {
  singleton_probability = e.singleton_probability;
  tail_exponent = e.tail_exponent;
  weibull_shape = shape_of e.shape_present e.weibull_shape;
}

unfoldable pub fit_of : FlatFit → SpectrumFit
fit_of f =
    record {
      error_model = error_of f.error_model;
      genome_model = genome_of f.genome_model;
      w_error = f.w_error;
      w_single = f.w_single;
      w_repeat = f.w_repeat;
      mean = f.mean;
      dispersion = f.dispersion;
      target_mode = f.target_mode;
      error_params = errors_of f.error_params;
      shelf = part_of f.shelf_present f.shelf;
      repeat_ratio = f.repeat_ratio;
      genome_kmers = f.genome_kmers;
      error_kmers = f.error_kmers;
      repeat_kmers = f.repeat_kmers;
      log_likelihood = f.log_likelihood;
      bic = f.bic;
      deviance = f.deviance;
      fit_window_end = f.fit_window_end;
      best_iterations = f.best_iterations;
      component_log_window_masses = f.component_log_window_masses;
      component_log_totals = f.component_log_totals;
      observed_total = f.observed_total;
      full_distinct_total = f.full_distinct_total;
    }

-- ---- what C gets: presence 1, or 0 and 0 for each number that is not there
abbrev pub of_errors : ErrorParams → FlatErrors
of_errors e =
    record {
      singleton_probability = e.singleton_probability;
      tail_exponent = e.tail_exponent;
      shape_present = shape_there e.weibull_shape;
      weibull_shape = shape_number e.weibull_shape;
    }

abbrev pub shelf_numbers : Option Shelf → FlatShelf
shelf_numbers shelf = let s = shelf_held shelf in record { share = s.share; alpha = s.alpha; beta = s.beta }

unfoldable pub of_fit : SpectrumFit → FlatFit
of_fit f =
    record {
      error_model = error_number f.error_model;
      genome_model = genome_number f.genome_model;
      w_error = f.w_error;
      w_single = f.w_single;
      w_repeat = f.w_repeat;
      mean = f.mean;
      dispersion = f.dispersion;
      target_mode = f.target_mode;
      error_params = of_errors f.error_params;
      shelf_present = shelf_there f.shelf;
      shelf = shelf_numbers f.shelf;
      repeat_ratio = f.repeat_ratio;
      genome_kmers = f.genome_kmers;
      error_kmers = f.error_kmers;
      repeat_kmers = f.repeat_kmers;
      log_likelihood = f.log_likelihood;
      bic = f.bic;
      deviance = f.deviance;
      fit_window_end = f.fit_window_end;
      best_iterations = f.best_iterations;
      component_log_window_masses = f.component_log_window_masses;
      component_log_totals = f.component_log_totals;
      observed_total = f.observed_total;
      full_distinct_total = f.full_distinct_total;
    }

-- the number, 0 for an answer; the fit, the empty one for a refusal
abbrev pub say_fit : Reply SpectrumFit → FlatFitAnswer
say_fit r = record { number = number_said r; fit = of_fit (fit_in r) }

abbrev pub say_heights : Reply Heights → FlatHeights
say_heights (refuse n) = record { number = n; error = constants.zero; single = constants.zero; repeat = constants.zero }
say_heights (broken place) = record {
  number = number.broken_file;
  error = constants.zero;
  single = constants.zero;
  repeat = constants.zero;
}
say_heights (give h) = record { number = 0; error = h.error; single = h.single; repeat = h.repeat }
