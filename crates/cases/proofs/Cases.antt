-- Document 01's cases marked P, all at once, and that bins which are all zero are no refusal. Assumes nothing.
use mathlib.Core.Path.{◌≡◌, refl, ◌∙◌}
use mathlib.Core.Bool.{Bool}
use mathlib.Core.List.{[], ◌∷◌}
use lib.Ieee.{Float, round, of_bits, of_int, to_unsigned, add, mul, div, neg, lt, le}
use Rattle.meaning.specs.Fold.{fold}
use Rattle.meaning.specs.Reply.{give}
use Rattle.routines.specs.Constants.{one}
use Rattle.routines.specs.Starts.{dec}
use Rattle.routines.specs.Whole.{round_of}
use Rattle.models.specs.Recovery.{used_scale_of, rounded_quotient_of}
use Rattle.models.specs.Walk.{walk_from, walk_of}
use Rattle.cases.specs.Cases.{Each, Recovers, recovered_rows, Shares, share_rows, Walks, walk_rows, Selects}
use Rattle.cases.specs.Cases.{selection_rows, Table}
use Rattle.fitter.specs.Recovering.{recovered, recover_bins_of}
use Rattle.fitter.specs.Selection.{replaces_of}
use Rattle.fitter.specs.Shares.{mass_of, clamp_of, share_of, shelf_share_of}
use Rattle.fitter.proofs.Replaced.{keeps-the-first, takes-the-second}
use Rattle.fitter.proofs.Selecting.{of_two}

recovered-cases : Each Recovers recovered_rows
unfolding recover_bins_of recovered rounded_quotient_of used_scale_of round_of round of_int of_bits div le to_unsigned
recovered-cases = (refl, (refl, (refl, (refl, tt))))

share-cases : Each Shares share_rows
unfolding shelf_share_of share_of mass_of clamp_of recovered rounded_quotient_of used_scale_of round_of fold round of_int of_bits add mul div neg lt le to_unsigned
share-cases = (refl, (refl, (refl, tt)))

walk-cases : Each Walks walk_rows
unfolding walk_of walk_from round add lt
walk-cases = (refl, (refl, (refl, (refl, tt))))

selected-by : (first next : Float) (Takes : Bool) → replaces_of first next ≡ Takes → Selects (first, next, Takes)
selected-by first next Takes e a b va vb ea eb = of_two a b va vb ∙ rw (ea, eb, e)

selection-cases : Each Selects selection_rows
selection-cases = (selected-by _ _ _ keeps-the-first, (selected-by _ _ _ takes-the-second, tt))

pub table : Table
table = (recovered-cases, share-cases, walk-cases, selection-cases)

pub all-zero : shelf_share_of (0 ∷ 0 ∷ []) one 2 2 ≡ give (dec 5 100)
unfolding shelf_share_of share_of mass_of clamp_of recovered rounded_quotient_of used_scale_of round_of fold round of_int of_bits add mul div neg lt le to_unsigned
all-zero = refl
