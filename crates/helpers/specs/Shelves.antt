-- The shelf, as math_helpers.rs has it, operation by operation. Definitions only. Assumes nothing.
use Rattle.std.specs.Prelude.{ℕ, zero, suc, true, cond, List, [], ◌∷◌, ◌++◌, Float, Option, None, Some}
use lib.ListN.{get_or}
use Rattle.std.specs.Float.{inf}
use Rattle.std.specs.Float.Ieee.{lt, to_unsigned}
use Rattle.meaning.specs.Fold.{fold}
use Rattle.meaning.specs.Over.{over}
use Rattle.meaning.specs.Reply.{Reply, give, chain}
use Rattle.meaning.specs.Lent.{on_give}
use Rattle.meaning.specs.Rows.{too_short, window_tests}
use Rattle.routines.specs.Constants.{one}
use Rattle.routines.specs.Lgamma.{lgamma_of}
use Rattle.routines.specs.Ln.{ln_of}
use Rattle.routines.specs.Ops.{◌⊕◌, ◌⊖◌, of_count}
use Rattle.routines.specs.Pick.{max_of, min_of}
use Rattle.routines.specs.Whole.{round_of}
use Rattle.helpers.specs.LogSums.{lse2_of}
use Rattle.helpers.specs.Lobes.{ln_dnbinom_of}
use Rattle.helpers.specs.declared.shelves.Shelf.{Shelf}

unfoldable pub shelf_trials_of : Float → Float
shelf_trials_of mean = max_of (round_of mean) one

unfoldable pub ln_dbetabinom_of : Float → Float → Float → Float → Float
ln_dbetabinom_of x trials alpha beta =
    cond (lt trials x) (inf true)
    (lgamma_of (trials ⊕ one) ⊖ lgamma_of (x ⊕ one) ⊖ lgamma_of (trials ⊖ x ⊕ one) ⊕ lgamma_of (x ⊕ alpha)
    ⊕ lgamma_of (trials ⊖ x ⊕ beta) ⊖ lgamma_of (trials ⊕ alpha ⊕ beta)
    ⊖ (lgamma_of alpha ⊕ lgamma_of beta ⊖ lgamma_of (alpha ⊕ beta)))

-- ---- the table: entry 0, and each entry from the one before
unfoldable pub table_start : Float → Float → Float → Float
table_start trials alpha beta =
    lgamma_of (trials ⊕ beta) ⊕ lgamma_of (alpha ⊕ beta) ⊖ lgamma_of (trials ⊕ alpha ⊕ beta) ⊖ lgamma_of beta

unfoldable pub table_step : Float → Float → Float → Float → Float
table_step trials alpha beta x = ln_of (trials ⊖ x) ⊕ ln_of (x ⊕ alpha) ⊖ ln_of (x ⊕ one) ⊖ ln_of (trials ⊖ x ⊖ one ⊕ beta)

abbrev pub next_entry : Float → Float → Float → ℕ → Float → Float
next_entry trials alpha beta x entry = entry ⊕ table_step trials alpha beta (of_count x)

abbrev pub entry_of : Float → Float → Float → ℕ → Float
entry_of trials alpha beta k = fold (next_entry trials alpha beta) 0 k (table_start trials alpha beta)

-- the first k entries
unfoldable pub table_of : Float → Float → Float → ℕ → List Float
table_of trials alpha beta zero = []
table_of trials alpha beta (suc k) = table_of trials alpha beta k ++ (entry_of trials alpha beta k ∷ [])

-- trials.min(top as f64) as usize
unfoldable pub last_of : Float → ℕ → ℕ
last_of trials top = to_unsigned 64 (min_of trials (of_count top))

-- how many entries are written into a slice of `room` entries
unfoldable pub shelf_log_table_of : Float → ℕ → ℕ → Reply ℕ
shelf_log_table_of mean top room =
    let last = last_of (shelf_trials_of mean) top in
    chain (window_tests top ++ too_short room (suc last)) (give (suc last))

-- what stands in the slice afterwards
unfoldable pub table_after : Float → Shelf → ℕ → List Float → List Float
table_after mean shelf top held =
    let trials = shelf_trials_of mean in
    on_give (shelf_log_table_of mean top (lib.ListN.length held))
    (over (table_of trials shelf.alpha shelf.beta (suc (last_of trials top))) held) held

-- ---- the single-copy component
abbrev pub mixed : Float → Shelf → Float → Float
mixed lobe s shelf = lse2_of (ln_of (one ⊖ s.share) ⊕ lobe) (ln_of s.share ⊕ shelf)

unfoldable pub ln_single_copy_of : Float → Float → Float → Option Shelf → Float
ln_single_copy_of count mean dispersion None = ln_dnbinom_of count mean dispersion
ln_single_copy_of count mean dispersion (Some s) =
    mixed (ln_dnbinom_of count mean dispersion) s (ln_dbetabinom_of count (shelf_trials_of mean) s.alpha s.beta)

-- the entry at a count, and -inf behind the table's end
unfoldable pub entry_at_of : Float → List Float → Float
entry_at_of count table = get_or table (to_unsigned 64 count) (inf true)

unfoldable pub mix_single_copy_of : Float → Float → Option Shelf → List Float → Float
mix_single_copy_of lobe count None table = lobe
mix_single_copy_of lobe count (Some s) table = mixed lobe s (entry_at_of count table)
