-- From a parameter list to the model's parameters, as models.rs has it, operation by operation.
-- Definitions only. Assumes nothing.
use Rattle.std.specs.Prelude.{ℕ, ◌+◌, List, [], ◌∷◌, length, get_or, Float, Option, None, Some}
use Rattle.std.specs.Float.{nan}
use Rattle.std.specs.Float.Ieee.{neg}
use Rattle.meaning.specs.Reply.{Reply, give, chain}
use Rattle.meaning.specs.Rows.{in_order, below_two, above_most}
use Rattle.routines.specs.Constants.{zero, half, one}
use Rattle.routines.specs.Exp.{exp_of}
use Rattle.routines.specs.Ops.{◌⊕◌, ◌⊖◌, ◌⊗◌, ◌⊘◌, of_count}
use Rattle.routines.specs.Starts.{dec}
use Rattle.helpers.specs.LogSums.{sigmoid_of, softmax3_of}
use Rattle.helpers.specs.declared.shelves.Shelf.{Shelf}
use Rattle.models.specs.Families.{parameter_count_of}
use Rattle.models.specs.Refusals.{wrong_list}
use Rattle.models.specs.ShelfRules.{min_retained, bounds_of, shelf_of}
use Rattle.models.specs.declared.families.ErrorModel.{ErrorModel}
use Rattle.models.specs.declared.families.ErrorModel.TheVariants.{FreeSingletonWeibull, SingletonPareto}
use Rattle.models.specs.declared.families.GenomeModel.{GenomeModel}
use Rattle.models.specs.declared.families.GenomeModel.TheVariants.{NegativeBinomial, ShelfNegativeBinomial}
use Rattle.models.specs.declared.errors.ErrorParams.{ErrorParams}
use Rattle.models.specs.declared.params.Params.{Params}

abbrev pub mu_low : Float
mu_low = dec 75 100

abbrev pub mu_span : Float
mu_span = dec 58 100

abbrev pub ratio_low : Float
ratio_low = dec 15 10

abbrev pub ratio_high : Float
ratio_high = dec 2 1

unfoldable pub mode_of : Float → Float → Float
mode_of peak t = peak ⊗ (mu_low ⊕ mu_span ⊘ (one ⊕ exp_of (neg t)))

abbrev pub error_params_of : ErrorModel → Float → Float → Float → ErrorParams
error_params_of FreeSingletonWeibull tail single s =
    record {
      singleton_probability = sigmoid_of single;
      tail_exponent = exp_of tail;
      weibull_shape = Some (exp_of s);
    }
error_params_of SingletonPareto tail single s =
    record {
      singleton_probability = sigmoid_of single;
      tail_exponent = exp_of tail;
      weibull_shape = None;
    }

unfoldable pub ratio_of : Float → Float
ratio_of t = ratio_low ⊕ (ratio_high ⊖ ratio_low) ⊗ sigmoid_of t

abbrev pub retained_at : Float → Float
retained_at kept = min_retained ⊕ (one ⊖ min_retained) ⊗ sigmoid_of kept

unfoldable pub shelf_at : Float → Float → Float → Shelf
shelf_at share kept narrow =
    let retained = retained_at kept in
    let bounds = bounds_of retained in
    shelf_of (half ⊗ sigmoid_of share) retained (bounds.low ⊕ (bounds.high ⊖ bounds.low) ⊗ sigmoid_of narrow)

abbrev pub shelf_part_of : GenomeModel → Float → Float → Float → Option Shelf
shelf_part_of NegativeBinomial share kept narrow = None
shelf_part_of ShelfNegativeBinomial share kept narrow = Some (shelf_at share kept narrow)

-- entry i, and a NaN past the end, which no list of the right length meets
abbrev pub theta : List Float → ℕ → Float
theta list i = get_or list i nan

unfoldable pub params_of : ErrorModel → GenomeModel → Float → List Float → Params
params_of error genome peak list =
    let base = parameter_count_of error in
    let weights = softmax3_of zero (theta list 0) (theta list 1) in
    let mode = mode_of peak (theta list 2) in
    let dispersion = one ⊕ exp_of (theta list 3) in
    record {
      ln_error = weights.first;
      ln_single = weights.second;
      ln_repeat = weights.third;
      target_mode = mode;
      mean = mode ⊕ dispersion ⊖ one;
      dispersion = dispersion;
      error_params = error_params_of error (theta list 4) (theta list 5) (theta list 6);
      shelf = shelf_part_of genome (theta list (base + 1)) (theta list (base + 2)) (theta list (base + 3));
      repeat_ratio = ratio_of (theta list base);
    }

unfoldable pub params_answer_of : ErrorModel → GenomeModel → ℕ → List Float → Reply Params
params_answer_of error genome peak list =
    chain (in_order (below_two (peak ∷ []) ∷ above_most (peak ∷ []) ∷ wrong_list (length list) error genome ∷ []))
    (give (params_of error genome (of_count peak) list))
