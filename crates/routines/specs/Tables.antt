-- exp's table as the values with the patterns of crates/entries, whose rule is `powers-nearest` there. Definitions
-- only. Assumes nothing.
use Rattle.std.specs.Prelude.{ℕ, from_bits, slice_index_or, Float}
use Rattle.std.specs.Float.{binary64}
use Rattle.routines.specs.declared.tables.Power.{Power}
unfoldable pub use Rattle.entries.specs.ExpTable.{rows}

abbrev pub value_in : ℕ × ℕ → Float
value_in (t, d) = from_bits binary64 t

abbrev pub rest_in : ℕ × ℕ → Float
rest_in (t, d) = from_bits binary64 d

-- row i
abbrev pub power_of : ℕ → Power
power_of i = record { value = value_in (slice_index_or rows i (0, 0)); rest = rest_in (slice_index_or rows i (0, 0)) }
