-- Answering 2, or none, each time breaks demand 3: at a fit whose premise holds (`sure-of-each`), with a budget of all its
-- k-mers and with none. And the order of the sum matters: added from the top, or in pairs, the same probabilities give
-- another cutoff, so no program that adds them so is the walk. Assumes nothing.
use Prim.Native.Nat.{ℕ, ◌^◌, ◌+◌}
use mathlib.Core.Path.{◌≡◌, refl}
use mathlib.Core.List.{[], ◌∷◌}
use lib.Dec.{T}
use lib.IntN.{pos, ◌*ℤ◌}
use lib.ListN.{get_or}
use lib.Signed.{lt_z, le_z}
use lib.Ieee.{Float, nan, round, to_unsigned, of_int, to_bits, of_bits, neg, add, sub, mul, div, lt, le, eq}
use Rattle.routines.specs.Exp.{exp_of, tee, scaled_up, scaled_by, reduced, exp_tail, beside_one, out_of_range}
use Rattle.routines.specs.Held.{at_least, at_most}
use Rattle.routines.specs.Lgamma.{lgamma_of, above_zero, four_up, stirling_with}
use Rattle.routines.specs.Ln.{ln_of, ln_core, ln_tail, beside_zero}
use Rattle.routines.specs.LnTable.{ln_rows}
use Rattle.routines.specs.Starts.{dec}
use Rattle.routines.specs.Tables.{rows}
use Rattle.routines.specs.Units.{units_in}
use Rattle.routines.specs.Whole.{round_of}
use Rattle.helpers.specs.Lobes.{ln_dpois_of, ln_dnbinom_of}
use Rattle.helpers.specs.Shelves.{ln_single_copy_of}
use Rattle.models.specs.ClaimsCutoff.{in_units, sum_below, removed_by, allowed_share, Keeps}
use Rattle.models.specs.Cutoffs.{ceiling_of}
use Rattle.models.specs.Slips.{down_from, from_top, in_pairs, walk_by, slip_of}
use Rattle.models.specs.Walk.{walk_from, walk_of}
use Rattle.models.specs.Witnesses.{mean_four}
use Rattle.std.specs.Prelude.{None, Some}

-- ---- the sum through 2 does not exceed a share of 1, nor is the sum below the ceiling at most 0
two-lost : T (lt_z (allowed_share mean_four (dec 1000 1) *ℤ pos (2 ^ 36)) (removed_by mean_four 3 *ℤ pos (2 ^ 36 + 1))) → ⊥
unfolding in_units sum_below units_in ln_single_copy_of ln_dnbinom_of ln_dpois_of lgamma_of above_zero four_up stirling_with ln_of ln_core ln_tail beside_zero ln_rows exp_of tee scaled_up scaled_by reduced exp_tail beside_one out_of_range at_least at_most rows round_of round to_unsigned of_int to_bits of_bits neg add sub mul div lt le eq
two-lost t = t

none-lost : T (le_z (removed_by mean_four (ceiling_of mean_four) *ℤ pos (2 ^ 36)) (allowed_share mean_four (dec 0 1) *ℤ pos (2 ^ 36 + 1))) → ⊥
unfolding in_units sum_below units_in ln_single_copy_of ln_dnbinom_of ln_dpois_of lgamma_of above_zero four_up stirling_with ln_of ln_core ln_tail beside_zero ln_rows exp_of tee scaled_up scaled_by reduced exp_tail beside_one out_of_range at_least at_most rows round_of round to_unsigned of_int to_bits of_bits neg add sub mul div lt le eq
none-lost t = t

pub always-two-breaks : Keeps mean_four (dec 1000 1) (Some 2) → ⊥
always-two-breaks k = two-lost (k.reaches 2 refl).lt

pub always-none-breaks : Keeps mean_four (dec 0 1) None → ⊥
always-none-breaks k = none-lost (k.stays refl).le

-- ---- 1 and three times 2 ^ -53: one after another each is lost, together they are not
abbrev pub one_and_small : ℕ → Float
one_and_small c = get_or (dec 1 1 ∷ dec 1 (2 ^ 53) ∷ dec 1 (2 ^ 53) ∷ dec 1 (2 ^ 53) ∷ []) c nan

pub walk-in-order : walk_of one_and_small (dec 1 1) 4 ≡ None
unfolding walk_of walk_from round add lt
walk-in-order = refl

pub walk-from-top : slip_of (from_top one_and_small) (dec 1 1) 4 ≡ Some 2
unfolding from_top down_from walk_by round add lt
walk-from-top = refl

pub walk-in-pairs : slip_of (in_pairs one_and_small) (dec 1 1) 4 ≡ Some 2
unfolding in_pairs walk_by round add lt
walk-in-pairs = refl
