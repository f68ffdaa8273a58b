-- What the calls that take a spectrum, a list or the shelf's table refuse, in document 01's order, before anything is
-- worked out: the rows of its table that speak of them, and the chain of cost and unpack. A row for a new number goes
-- between two others. Definitions only. Assumes nothing.
use Rattle.std.specs.Prelude.{ℕ, ◌+◌, not, List, [], ◌∷◌, eqb, length, Float}
use Rattle.meaning.specs.Numbers as number
use Rattle.meaning.specs.Reply.{Test, test}
use Rattle.meaning.specs.Rows.{in_order, below_two, above_most, outside, too_short, window_tests}
use Rattle.models.specs.Families.{list_length_of}
use Rattle.models.specs.Recovery.{used_scale_of}
use Rattle.models.specs.Spectra.{all_zero_of, none_recovered_of}
use Rattle.models.specs.declared.families.ErrorModel.{ErrorModel}
use Rattle.models.specs.declared.families.GenomeModel.{GenomeModel}
use Rattle.models.specs.declared.families.GenomeModel.TheVariants.{NegativeBinomial, ShelfNegativeBinomial}

-- 4: all bins are zero
abbrev pub all_zero : List ℕ → List Test
all_zero bins = test (all_zero_of bins) number.all_bins_zero ∷ []

-- 6: every recovered bin in the window is zero
abbrev pub none_recovered : List ℕ → Float → ℕ → List Test
none_recovered bins scale end = test (none_recovered_of bins (used_scale_of scale) end) number.nothing_recovered ∷ []

-- 7: a list has the wrong length for its families
abbrev pub wrong_list : ℕ → ErrorModel → GenomeModel → List Test
wrong_list listed error genome = test (not (eqb listed (list_length_of error genome))) number.wrong_length ∷ []

-- 10: the lent table has no room for the entries needed, whatever the trials: this is decided before they are known
abbrev pub table_demand : GenomeModel → ℕ → ℕ
table_demand NegativeBinomial end = 0
table_demand ShelfNegativeBinomial end = end + 1

abbrev pub short_table : GenomeModel → ℕ → ℕ → List Test
short_table genome end room = too_short room (table_demand genome end)

-- 4, 5 and 6: the spectrum in a window
unfoldable pub spectrum_tests : List ℕ → Float → ℕ → List Test
spectrum_tests bins scale end = in_order (all_zero bins ∷ outside end (length bins) ∷ none_recovered bins scale end ∷ [])

-- ---- what the layers above ask on their own: of bins and a window end, and of a lent table
unfoldable pub bins_tests : List ℕ → Float → ℕ → List Test
bins_tests bins scale end =
    in_order (below_two (length bins ∷ []) ∷ above_most (length bins ∷ end ∷ []) ∷ spectrum_tests bins scale end ∷ [])

abbrev pub table_tests : GenomeModel → ℕ → ℕ → List Test
table_tests genome end room = in_order (window_tests end ∷ short_table genome end room ∷ [])

-- ---- cost and unpack
-- `listed` is the list's length, `room` the lent table's
unfoldable pub fit_tests : List ℕ → Float → ℕ → ℕ → ErrorModel → GenomeModel → ℕ → ℕ → List Test
fit_tests bins scale end peak error genome listed room =
    in_order
    (below_two (peak ∷ length bins ∷ [])
    ∷ above_most (length bins ∷ peak ∷ end ∷ [])
    ∷ spectrum_tests bins scale end
    ∷ wrong_list listed error genome
    ∷ short_table genome end room
    ∷ [])
