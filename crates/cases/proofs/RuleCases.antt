-- The validator's ten rules beside their limits, worked out by the checker from the definitions that `validate_fit` cites.
-- Assumes nothing.
use mathlib.Core.Path.{refl}
use lib.Ieee.{round, to_unsigned, of_int, to_bits, of_bits, neg, add, sub, mul, div, lt, le, eq, ne}
use Rattle.meaning.specs.Fold.{fold}
use Rattle.routines.specs.Exp.{exp_of, tee, scaled_up, scaled_by, reduced, exp_tail, beside_one, out_of_range}
use Rattle.routines.specs.Expm1.{expm1_of, tee_m, far_out, less_one, beside_minus_one}
use Rattle.routines.specs.Held.{at_least, at_most}
use Rattle.routines.specs.Ln.{ln_of, ln_core, ln_tail, beside_zero}
use Rattle.routines.specs.LnTable.{ln_rows}
use Rattle.routines.specs.Pick.{max_of, min_of}
use Rattle.routines.specs.Tables.{rows}
use Rattle.routines.specs.Whole.{floor_of}
use Rattle.helpers.specs.Lobes.{discrete_nb_mode_of}
use Rattle.helpers.specs.LogSums.{lse3_of, ln_sub_exp_of}
use Rattle.models.specs.Errors.{factor_of, survival_of, log_probability_of}
use Rattle.models.specs.Fits.{abs_of}
use Rattle.models.specs.Modes.{later_wins, with_nan, higher_with, higher_of, highest_of, error_mode_of}
use Rattle.models.specs.ShelfRules.{retained_of, concentration_of, shelf_is_valid_of}
use Rattle.fitter.specs.Validation.{non_finite_likelihood, bad_weight, bad_mean, bad_dispersion, invalid_components}
use Rattle.fitter.specs.Validation.{bad_mass, invalid_window_mass, excess_of, above_or_nan, component_mass_exceeded}
use Rattle.fitter.specs.Validation.{unstable_mode, outside_window, lobe_outside_window, error_mode_past_valley}
use Rattle.fitter.specs.Validation.{outside_band, primary_mode_outside_band, repeat_mode_too_early}
use Rattle.fitter.specs.Validation.{positive_log_likelihood, verdict_of, bad_limit, validate_tests, validate_of}
use Rattle.cases.specs.RuleCases.{Rules1To3, Rules4To6, Rules7To10, Bands, rule8_far, RulesInOrder, Named, reasons}
use Rattle.cases.specs.RuleCases.{RuleTable}
use Rattle.cases.specs.Cases.{Each}

rules-1-to-3 : Rules1To3
unfolding validate_of validate_tests bad_limit verdict_of non_finite_likelihood invalid_components bad_weight bad_mean bad_dispersion invalid_window_mass bad_mass component_mass_exceeded excess_of above_or_nan unstable_mode lobe_outside_window outside_window error_mode_past_valley primary_mode_outside_band outside_band repeat_mode_too_early positive_log_likelihood shelf_is_valid_of retained_of concentration_of error_mode_of highest_of higher_of higher_with with_nan later_wins log_probability_of survival_of factor_of abs_of discrete_nb_mode_of lse3_of ln_sub_exp_of max_of min_of floor_of ln_of ln_core ln_tail beside_zero ln_rows exp_of tee scaled_up scaled_by reduced exp_tail beside_one out_of_range at_least at_most rows expm1_of tee_m far_out less_one beside_minus_one fold round to_unsigned of_int to_bits of_bits neg add sub mul div lt le eq ne
rules-1-to-3 = (
  (refl, (refl, (refl, (refl, (refl, (refl, (refl, (refl, (refl, (refl, (refl, (refl, (refl, (refl, (refl, tt))))))))))))))),
  (refl, (refl, (refl, (refl, (refl, (refl, (refl, (refl, (refl, (refl, (refl, (refl, tt)))))))))))),
  (refl, (refl, (refl, (refl, (refl, (refl, (refl, (refl, tt)))))))),
  (refl, (refl, (refl, (refl, (refl, (refl, (refl, (refl, tt)))))))),
  (refl, (refl, (refl, (refl, (refl, (refl, (refl, (refl, (refl, (refl, (refl, (refl, (refl, (refl, (refl, (refl, (refl, (refl, tt)))))))))))))))))),
  (refl, (refl, (refl, (refl, (refl, (refl, (refl, (refl, (refl, (refl, (refl, (refl, (refl, (refl, tt)))))))))))))),
)

rules-4-to-6 : Rules4To6
unfolding validate_of validate_tests bad_limit verdict_of non_finite_likelihood invalid_components bad_weight bad_mean bad_dispersion invalid_window_mass bad_mass component_mass_exceeded excess_of above_or_nan unstable_mode lobe_outside_window outside_window error_mode_past_valley primary_mode_outside_band outside_band repeat_mode_too_early positive_log_likelihood shelf_is_valid_of retained_of concentration_of error_mode_of highest_of higher_of higher_with with_nan later_wins log_probability_of survival_of factor_of abs_of discrete_nb_mode_of lse3_of ln_sub_exp_of max_of min_of floor_of ln_of ln_core ln_tail beside_zero ln_rows exp_of tee scaled_up scaled_by reduced exp_tail beside_one out_of_range at_least at_most rows expm1_of tee_m far_out less_one beside_minus_one fold round to_unsigned of_int to_bits of_bits neg add sub mul div lt le eq ne
rules-4-to-6 = (
  (refl, (refl, (refl, (refl, (refl, (refl, (refl, (refl, (refl, (refl, (refl, (refl, (refl, (refl, (refl, (refl, (refl, (refl, (refl, (refl, (refl, (refl, (refl, tt))))))))))))))))))))))),
  (refl, (refl, (refl, (refl, (refl, (refl, (refl, (refl, (refl, (refl, (refl, tt))))))))))),
  (refl, (refl, (refl, (refl, (refl, (refl, (refl, (refl, tt)))))))),
)

rules-7-to-10 : Rules7To10
unfolding validate_of validate_tests bad_limit verdict_of non_finite_likelihood invalid_components bad_weight bad_mean bad_dispersion invalid_window_mass bad_mass component_mass_exceeded excess_of above_or_nan unstable_mode lobe_outside_window outside_window error_mode_past_valley primary_mode_outside_band outside_band repeat_mode_too_early positive_log_likelihood shelf_is_valid_of retained_of concentration_of error_mode_of highest_of higher_of higher_with with_nan later_wins log_probability_of survival_of factor_of abs_of discrete_nb_mode_of lse3_of ln_sub_exp_of max_of min_of floor_of ln_of ln_core ln_tail beside_zero ln_rows exp_of tee scaled_up scaled_by reduced exp_tail beside_one out_of_range at_least at_most rows expm1_of tee_m far_out less_one beside_minus_one fold round to_unsigned of_int to_bits of_bits neg add sub mul div lt le eq ne
rules-7-to-10 = (
  (refl, (refl, (refl, (refl, (refl, (refl, (refl, (refl, (refl, (refl, (refl, (refl, (refl, (refl, tt)))))))))))))),
  (refl, (refl, (refl, (refl, (refl, (refl, (refl, (refl, tt)))))))),
  (refl, (refl, (refl, (refl, (refl, (refl, (refl, (refl, (refl, (refl, tt)))))))))),
  (refl, (refl, (refl, (refl, (refl, tt))))),
)

rules-in-order : RulesInOrder
unfolding validate_of validate_tests bad_limit verdict_of non_finite_likelihood invalid_components bad_weight bad_mean bad_dispersion invalid_window_mass bad_mass component_mass_exceeded excess_of above_or_nan unstable_mode lobe_outside_window outside_window error_mode_past_valley primary_mode_outside_band outside_band repeat_mode_too_early positive_log_likelihood shelf_is_valid_of retained_of concentration_of error_mode_of highest_of higher_of higher_with with_nan later_wins log_probability_of survival_of factor_of abs_of discrete_nb_mode_of lse3_of ln_sub_exp_of max_of min_of floor_of ln_of ln_core ln_tail beside_zero ln_rows exp_of tee scaled_up scaled_by reduced exp_tail beside_one out_of_range at_least at_most rows expm1_of tee_m far_out less_one beside_minus_one fold round to_unsigned of_int to_bits of_bits neg add sub mul div lt le eq ne
rules-in-order = (
  (refl, (refl, (refl, (refl, (refl, (refl, (refl, (refl, (refl, (refl, tt)))))))))),
  (refl, (refl, (refl, (refl, (refl, (refl, (refl, (refl, (refl, (refl, (refl, (refl, (refl, (refl, (refl, (refl, (refl, (refl, (refl, (refl, tt)))))))))))))))))))),
)

rule-8-far : Each Bands rule8_far
unfolding primary_mode_outside_band outside_band discrete_nb_mode_of min_of floor_of round to_unsigned of_int of_bits neg add sub mul lt le eq
rule-8-far = (refl, (refl, (refl, (refl, tt))))

reasons-named : Each Named reasons
reasons-named = (refl, (refl, (refl, (refl, (refl, (refl, (refl, (refl, (refl, (refl, tt))))))))))

pub rule-table : RuleTable
rule-table = (rules-1-to-3, rules-4-to-6, rules-7-to-10, rule-8-far, rules-in-order, reasons-named)
