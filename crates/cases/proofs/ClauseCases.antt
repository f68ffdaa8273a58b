-- The clauses of the shelf share, of the starts' hint and order and of the selection beside their limits, worked out by the
-- checker. Assumes nothing.
use mathlib.Core.Path.{refl}
use lib.Ieee.{round, to_unsigned, of_int, to_bits, of_bits, neg, add, sub, mul, div, lt, le, eq}
use Rattle.meaning.specs.Fold.{fold}
use Rattle.routines.specs.Ln.{ln_of, ln_core, ln_tail, beside_zero}
use Rattle.routines.specs.LnTable.{ln_rows}
use Rattle.routines.specs.Pick.{max_of}
use Rattle.routines.specs.Starts.{pareto_starts, weibull_starts}
use Rattle.routines.specs.Whole.{round_of}
use Rattle.models.specs.Fits.{abs_of}
use Rattle.models.specs.Recovery.{used_scale_of, rounded_quotient_of}
use Rattle.models.specs.Unpacking.{empty_fit}
use Rattle.fitter.specs.Attempts.{valid_of}
use Rattle.fitter.specs.InTurn.{in_turn}
use Rattle.fitter.specs.Recovering.{recovered}
use Rattle.fitter.specs.Selection.{replaces_of, wins_of, replace_of, select_of}
use Rattle.fitter.specs.Shares.{mass_of, clamp_of, share_of, shelf_share_of}
use Rattle.fitter.specs.Starts.{logit_of, hint_of, dispersion_start, ratio_start, plain_start, shelf_list}
use Rattle.fitter.specs.Starts.{shelf_start, row_starts, table_starts, seed_starts, all_starts, starts_of}
use Rattle.cases.specs.Cases.{Each}
use Rattle.cases.specs.ClauseCases.{ShareTable, Hints, hint_rows, SeedsThenHint, StartsThenShapes, SelectionTable}
use Rattle.cases.specs.ClauseCases.{ClauseTable}

share-table : ShareTable
unfolding shelf_share_of share_of mass_of clamp_of recovered rounded_quotient_of used_scale_of round_of fold round of_int of_bits to_bits add mul div neg lt le to_unsigned
share-table = (
  (refl, (refl, (refl, (refl, (refl, (refl, tt)))))),
  (refl, (refl, (refl, (refl, (refl, (refl, tt)))))),
  (refl, (refl, (refl, (refl, (refl, (refl, tt)))))),
  (refl, (refl, (refl, (refl, (refl, tt))))),
  (refl, (refl, (refl, (refl, (refl, (refl, (refl, (refl, tt)))))))),
)

hints-and-order : Each Hints hint_rows × SeedsThenHint × StartsThenShapes
unfolding starts_of all_starts seed_starts table_starts row_starts plain_start shelf_start shelf_list in_turn logit_of hint_of dispersion_start ratio_start pareto_starts weibull_starts max_of ln_of ln_core ln_tail beside_zero ln_rows round to_unsigned of_int to_bits of_bits neg add sub mul div lt le eq
hints-and-order =
    (((refl, refl), ((refl, refl), ((refl, refl), ((refl, refl), ((refl, refl), ((refl, refl), ((refl, refl), ((refl, refl), ((refl, refl), ((refl, refl), ((refl, refl), tt))))))))))), refl, refl)

selection-table : SelectionTable
unfolding select_of replace_of wins_of valid_of replaces_of abs_of max_of empty_fit round of_bits to_bits neg add sub mul lt eq
selection-table = (
  (refl, (refl, (refl, (refl, (refl, (refl, (refl, tt))))))),
  (refl, (refl, (refl, (refl, (refl, (refl, (refl, tt))))))),
  (refl, (refl, (refl, (refl, (refl, (refl, (refl, tt))))))),
)

pub clause-table : ClauseTable
clause-table = (share-table, hints-and-order.0, hints-and-order.1, hints-and-order.2, selection-table)
