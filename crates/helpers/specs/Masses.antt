-- Window masses, as math_helpers.rs has them, operation by operation; sums run from the left. Definitions only.
-- Assumes nothing.
use Rattle.std.specs.Prelude.{ℕ, ◌+◌, min, true, cond, List, length, get_or, Float, Option, None, Some}
use Rattle.std.specs.Float.{inf}
use Rattle.std.specs.Float.Ieee.{le}
use Rattle.meaning.specs.Fold.{fold}
use Rattle.meaning.specs.Reply.{Reply, give, chain}
use Rattle.meaning.specs.Rows.{window_tests}
use Rattle.routines.specs.Constants.{one}
use Rattle.routines.specs.Ln.{ln_of}
use Rattle.routines.specs.Ops.{◌⊕◌, ◌⊖◌, of_count}
use Rattle.helpers.specs.LogSums.{lse2_of}
use Rattle.helpers.specs.Lobes.{nearly_poisson, size_of, log_q_of, ln_dpois_of, ln_dnbinom_of}
use Rattle.helpers.specs.Shelves.{mixed}
use Rattle.helpers.specs.declared.shelves.Shelf.{Shelf}

-- ---- log_recurrence_mass: the total so far and the next term, over counts 1 to `top`
abbrev pub recurrence_step : (ℕ → Float) → ℕ → Float × Float → Float × Float
recurrence_step ratio count (total, term) = (lse2_of total term, term ⊕ ratio count)

abbrev pub recurrence : (ℕ → Float) → Float → ℕ → Float × Float
recurrence ratio first top = fold (recurrence_step ratio) 1 (top + 1) (inf true, first)

abbrev pub poisson_ratio : Float → ℕ → Float
poisson_ratio mean count = ln_of mean ⊖ ln_of (of_count (count + 1))

abbrev pub binomial_ratio : Float → Float → ℕ → Float
binomial_ratio mean dispersion count =
    ln_of (of_count count ⊕ size_of mean dispersion) ⊖ ln_of (of_count (count + 1)) ⊕ log_q_of dispersion

-- the two named sums
unfoldable pub poisson_mass_of : Float → ℕ → Float
poisson_mass_of mean top = (recurrence (poisson_ratio mean) (ln_dpois_of one mean) top).0

unfoldable pub binomial_mass_of : Float → Float → ℕ → Float
binomial_mass_of mean dispersion top = (recurrence (binomial_ratio mean dispersion) (ln_dnbinom_of one mean dispersion) top).0

unfoldable pub log_nb_mass_to : Float → Float → ℕ → Float
log_nb_mass_to mean dispersion top =
    cond (le dispersion nearly_poisson) (poisson_mass_of mean top) (binomial_mass_of mean dispersion top)

-- ---- a window end is refused above 65,535 and at 0
abbrev pub in_window : ℕ → Float → Reply Float
in_window top value = chain (window_tests top) (give value)

unfoldable pub log_nb_mass_of : Float → Float → ℕ → Reply Float
log_nb_mass_of mean dispersion top = in_window top (log_nb_mass_to mean dispersion top)

-- ---- the shelf's entries 1 to `top`, as far as the table goes
abbrev pub shelf_step : List Float → ℕ → Float → Float
shelf_step table i total = lse2_of total (get_or table i (inf true))

unfoldable pub shelf_mass_of : List Float → ℕ → Float
shelf_mass_of table top = fold (shelf_step table) 1 (min (length table) (top + 1)) (inf true)

unfoldable pub single_copy_mass_to : Float → Float → Option Shelf → List Float → ℕ → Float
single_copy_mass_to mean dispersion None table top = log_nb_mass_to mean dispersion top
single_copy_mass_to mean dispersion (Some s) table top = mixed (log_nb_mass_to mean dispersion top) s (shelf_mass_of table top)

unfoldable pub single_copy_log_mass_of : Float → Float → Option Shelf → List Float → ℕ → Reply Float
single_copy_log_mass_of mean dispersion shelf table top = in_window top (single_copy_mass_to mean dispersion shelf table top)
