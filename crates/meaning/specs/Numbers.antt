-- The numbers that come back instead of an answer, in the order of document 01's table. Their words stand in
-- docs/NUMBERS.md. Definitions only. Assumes nothing.
use Rattle.std.specs.Prelude.{ℕ}

abbrev pub too_small : ℕ
too_small = 1

abbrev pub too_large : ℕ
too_large = 2

abbrev pub broken_file : ℕ
broken_file = 3

abbrev pub all_bins_zero : ℕ
all_bins_zero = 4

abbrev pub no_window : ℕ
no_window = 5

abbrev pub nothing_recovered : ℕ
nothing_recovered = 6

abbrev pub wrong_length : ℕ
wrong_length = 7

abbrev pub nan_scanned : ℕ
nan_scanned = 8

abbrev pub wrong_limit_or_cost : ℕ
wrong_limit_or_cost = 9

abbrev pub too_short : ℕ
too_short = 10
