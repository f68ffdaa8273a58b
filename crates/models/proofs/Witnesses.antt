-- Demand 3 is not empty: its premise holds of fits with a Poisson lobe, with a negative binomial lobe and with a shelf,
-- for each of the three answers, and `hole_cutoff_sure` is sure of each (`sure-of-each`). And the ceiling decides: at a
-- mean between two whole numbers another ceiling gives another answer (`ceiling-decides`). The checker works all of it
-- out. Assumes nothing.
use mathlib.Core.Path.{refl}
use lib.Ieee.{round, to_unsigned, of_int, to_bits, of_bits, neg, add, sub, mul, div, lt, le, eq}
use Rattle.routines.specs.Exp.{exp_of, tee, scaled_up, scaled_by, reduced, exp_tail, beside_one, out_of_range}
use Rattle.routines.specs.Held.{at_least, at_most}
use Rattle.routines.specs.Lgamma.{lgamma_of, above_zero, four_up, stirling_with}
use Rattle.routines.specs.Ln.{ln_of, ln_core, ln_tail, beside_zero}
use Rattle.routines.specs.LnTable.{ln_rows}
use Rattle.routines.specs.Pick.{max_of}
use Rattle.routines.specs.Tables.{rows}
use Rattle.routines.specs.Whole.{round_of}
use Rattle.helpers.specs.Lobes.{ln_dpois_of, ln_dnbinom_of}
use Rattle.helpers.specs.LogSums.{lse2_of}
use Rattle.helpers.specs.Shelves.{ln_single_copy_of, ln_dbetabinom_of, shelf_trials_of}
use Rattle.models.specs.Cutoffs.{walk_starts, hole_walk_of, sure_of, hole_cutoff_sure_of}
use Rattle.models.specs.Walk.{walk_from, walk_of, probable, all_probable}
use Rattle.models.specs.Witnesses.{AllSure, answer_rows, ceiling_rows}

pub sure-of-each : AllSure answer_rows
unfolding hole_cutoff_sure_of sure_of walk_starts hole_walk_of walk_of walk_from all_probable probable ln_single_copy_of ln_dbetabinom_of shelf_trials_of lse2_of max_of ln_dnbinom_of ln_dpois_of lgamma_of above_zero four_up stirling_with ln_of ln_core ln_tail beside_zero ln_rows exp_of tee scaled_up scaled_by reduced exp_tail beside_one out_of_range at_least at_most rows round_of round to_unsigned of_int to_bits of_bits neg add sub mul div lt le eq
sure-of-each = (refl, (refl, (refl, (refl, (refl, (refl, (refl, (refl, (refl, tt)))))))))

pub ceiling-decides : AllSure ceiling_rows
unfolding hole_cutoff_sure_of sure_of walk_starts hole_walk_of walk_of walk_from all_probable probable ln_single_copy_of ln_dbetabinom_of shelf_trials_of lse2_of max_of ln_dnbinom_of ln_dpois_of lgamma_of above_zero four_up stirling_with ln_of ln_core ln_tail beside_zero ln_rows exp_of tee scaled_up scaled_by reduced exp_tail beside_one out_of_range at_least at_most rows round_of round to_unsigned of_int to_bits of_bits neg add sub mul div lt le eq
ceiling-decides = (refl, (refl, (refl, tt)))
