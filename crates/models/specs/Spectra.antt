-- The spectrum as the sample had it. Bin i holds count i + 1; sums run from the left, from the -0 of Rust's sum.
-- Definitions only. Assumes nothing.
use Rattle.std.specs.Prelude.{ℕ, Bool, true, ◌&&◌, cond, List, eqb, length, get_or, Float}
use Rattle.std.specs.Float.Ieee.{neg}
use Rattle.meaning.specs.Fold.{fold}
use Rattle.routines.specs.Ops.{◌⊕◌, of_count}
use Rattle.routines.specs.Constants.{zero}
use Rattle.models.specs.Recovery.{used_scale_of, rounded_quotient_of}
use Rattle.models.specs.declared.spectra.Window.{Window}

-- bin i over the scale, and 0 over the scale behind the bins
unfoldable pub recovered_at : List ℕ → Float → ℕ → ℕ
recovered_at bins scale i = rounded_quotient_of (get_or bins i 0) scale

-- an empty bin adds nothing
unfoldable pub seen_term : ℕ → Float → Float → Float
seen_term n total term = cond (eqb n 0) total (total ⊕ term)

-- term : the recovered bin, its number
abbrev pub observed_step : List ℕ → Float → (ℕ → ℕ → Float) → ℕ → Float → Float
observed_step bins scale term i total = let n = recovered_at bins scale i in seen_term n total (term n i)

-- the sum over the recovered bins 0 to top - 1 that are not empty
unfoldable pub over_observed : List ℕ → Float → ℕ → (ℕ → ℕ → Float) → Float
over_observed bins scale top term = fold (observed_step bins scale term) 0 top (neg zero)

abbrev pub observed_total_of : List ℕ → Float → ℕ → Float
observed_total_of bins scale top = over_observed bins scale top (λ (n i : ℕ). of_count n)

abbrev pub full_step : List ℕ → ℕ → Float → Float
full_step bins i total = total ⊕ of_count (get_or bins i 0)

unfoldable pub full_total_of : List ℕ → Float
full_total_of bins = fold (full_step bins) 0 (length bins) (neg zero)

-- what a call works out of the bins once: `scale` is the one in use, `observed` and `full` are the totals
abbrev pub window_of : List ℕ → Float → ℕ → Window
window_of bins scale end =
    let used = used_scale_of scale in
    record { scale = used; end = end; observed = observed_total_of bins used end; full = full_total_of bins }

-- ---- whether a test holds of each of the first n
abbrev pub all_step : (ℕ → Bool) → ℕ → Bool → Bool
all_step p i so = so && p i

unfoldable pub all_of : (ℕ → Bool) → ℕ → Bool
all_of p n = fold (all_step p) 0 n true

abbrev pub all_zero_of : List ℕ → Bool
all_zero_of bins = all_of (λ (i : ℕ). eqb (get_or bins i 0) 0) (length bins)

abbrev pub none_recovered_of : List ℕ → Float → ℕ → Bool
none_recovered_of bins scale top = all_of (λ (i : ℕ). eqb (recovered_at bins scale i) 0) top
