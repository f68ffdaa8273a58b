-- How C has the parameters of a list and a shelf's bounds. Definitions only. Assumes nothing.
use Rattle.std.specs.Prelude.{ℕ}
use Rattle.meaning.specs.Reply.{Reply, refuse, broken, give}
use Rattle.routines.specs.Constants.{zero}
use Rattle.models.specs.declared.params.Params.{Params}
use Rattle.models.specs.declared.shelf_rules.Bounds.{Bounds}
use Rattle.models.specs.Parts.{shelf_there}
use Rattle.exports.specs.FlatFits.{of_errors, shelf_numbers}
use Rattle.probe.specs.declared.params.FlatParams.{FlatParams}
use Rattle.probe.specs.declared.params.FlatParamsAnswer.{FlatParamsAnswer}
use Rattle.probe.specs.declared.tables.FlatPair.{FlatPair}

abbrev pub of_bounds : Bounds → FlatPair
of_bounds b = record { first = b.low; second = b.high }

abbrev pub of_params : Params → FlatParams
of_params p =
    record {
      ln_error = p.ln_error;
      ln_single = p.ln_single;
      ln_repeat = p.ln_repeat;
      target_mode = p.target_mode;
      mean = p.mean;
      dispersion = p.dispersion;
      error_params = of_errors p.error_params;
      shelf_present = shelf_there p.shelf;
      shelf = shelf_numbers p.shelf;
      repeat_ratio = p.repeat_ratio;
    }

-- the number, and 0 for everything beside it
abbrev pub no_params : ℕ → FlatParamsAnswer
no_params n =
    record {
      number = n;
      params =
          record {
            ln_error = zero;
            ln_single = zero;
            ln_repeat = zero;
            target_mode = zero;
            mean = zero;
            dispersion = zero;
            error_params = record { singleton_probability = zero; tail_exponent = zero; shape_present = 0; weibull_shape = zero };
            shelf_present = 0;
            shelf = record { share = zero; alpha = zero; beta = zero };
            repeat_ratio = zero;
          };
    }

abbrev pub say_params : Reply Params → FlatParamsAnswer
say_params (refuse n) = no_params n
say_params (broken place) = no_params 3
say_params (give p) = record { number = 0; params = of_params p }
