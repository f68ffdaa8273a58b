-- Empty programs of document 01, each at one input: what the contract's definition leaves in the lent memory is not what
-- such a program leaves there. Those of the hole cutoff stand in crates/models/proofs/Slips.antt. Assumes nothing.
use mathlib.Core.Path.{◌≡◌, refl}
use mathlib.Core.Bool.{false}
use mathlib.Core.List.{List, [], ◌∷◌}
use lib.ListN.{get_or}
use lib.Ieee.{Float, nan, round, to_unsigned, of_int, to_bits, of_bits, neg, add, sub, mul, div, lt, le, eq}
use Rattle.meaning.specs.Fold.{fold}
use Rattle.meaning.specs.Lent.{laid}
use Rattle.meaning.specs.Over.{over}
use Rattle.routines.specs.Constants.{zero}
use Rattle.routines.specs.Lgamma.{lgamma_of, above_zero, four_up, stirling_with}
use Rattle.routines.specs.Ln.{ln_of, ln_core, ln_tail, beside_zero}
use Rattle.routines.specs.LnTable.{ln_rows}
use Rattle.routines.specs.Pick.{max_of, min_of}
use Rattle.routines.specs.Starts.{dec, pareto_starts, weibull_starts}
use Rattle.routines.specs.Whole.{round_of}
use Rattle.helpers.specs.Shelves.{shelf_trials_of, ln_dbetabinom_of, table_start, table_step, table_of, last_of}
use Rattle.helpers.specs.Shelves.{shelf_log_table_of, table_after}
use Rattle.models.specs.declared.families.ErrorModel.TheVariants.{SingletonPareto}
use Rattle.models.specs.declared.families.GenomeModel.TheVariants.{NegativeBinomial}
use Rattle.fitter.specs.InTurn.{in_turn}
use Rattle.fitter.specs.Starts.{logit_of, hint_of, dispersion_start, ratio_start, plain_start, row_starts}
use Rattle.fitter.specs.Starts.{table_starts, seed_starts, all_starts, starts_of}

-- ---- writing no starts, or the first only: Pareto without a seed and with a hint of 3 has two starts of seven numbers
abbrev zeros : List Float
zeros =
    zero ∷ zero ∷ zero ∷ zero ∷ zero ∷ zero ∷ zero ∷ zero ∷ zero ∷ zero ∷ zero ∷ zero ∷ zero ∷ zero ∷ []

abbrev written : List Float
written = laid (starts_of SingletonPareto NegativeBinomial pareto_starts weibull_starts [] (dec 3 1) (dec 1 10) [] 14) zeros

-- the fourth number of each, ln 2, is written
pub both-starts-written : (eq (get_or written 3 nan) zero ≡ false) × (eq (get_or written 10 nan) zero ≡ false)
unfolding starts_of all_starts seed_starts table_starts row_starts plain_start in_turn logit_of hint_of dispersion_start ratio_start pareto_starts weibull_starts max_of ln_of ln_core ln_tail beside_zero ln_rows over round to_unsigned of_int to_bits of_bits neg add sub mul div lt le eq
both-starts-written = (refl, refl)

-- ---- writing no shelf entries: a mean of 2 has two trials, so three entries up to a top of 2
abbrev entries : List Float
entries =
    table_after (dec 2 1) (record { share = dec 1 10; alpha = dec 2 1; beta = dec 3 1 }) 2 (zero ∷ zero ∷ zero ∷ [])

pub all-entries-written : (eq (get_or entries 0 nan) zero ≡ false)
    × (eq (get_or entries 1 nan) zero ≡ false)
    × (eq (get_or entries 2 nan) zero ≡ false)
unfolding table_after shelf_log_table_of shelf_trials_of last_of table_of table_start table_step ln_dbetabinom_of max_of lgamma_of above_zero four_up stirling_with ln_of ln_core ln_tail beside_zero ln_rows round_of fold over round to_unsigned of_int to_bits of_bits neg add sub mul div lt le eq min_of
all-entries-written = (refl, refl, refl)
