-- ln's table as the values with the patterns of crates/entries, whose rule is `logs-nearest` there. Definitions only.
-- Assumes nothing.
use Rattle.std.specs.Prelude.{ℕ, from_bits, slice_index_or, Float}
use Rattle.std.specs.Float.{binary64}
use Rattle.routines.specs.declared.ln_table.Piece.{Piece}
use Rattle.routines.specs.declared.ln_table.LogOfPiece.{LogOfPiece}
use Rattle.entries.specs.LnTable.{Patterns}
unfoldable pub use Rattle.entries.specs.LnTable.{ln_rows}

abbrev pub piece_in : Patterns → Float × Float
piece_in (c, b, h, l) = (from_bits binary64 c, from_bits binary64 b)

abbrev pub log_in : Patterns → Float × Float
log_in (c, b, h, l) = (from_bits binary64 h, from_bits binary64 l)

-- row i
abbrev pub piece_of : ℕ → Float × Float
piece_of i = piece_in (slice_index_or ln_rows i (0, 0, 0, 0))

abbrev pub log_of : ℕ → Float × Float
log_of i = log_in (slice_index_or ln_rows i (0, 0, 0, 0))

abbrev pub piece_parts : Piece → Float × Float
piece_parts r = (r.0, r.1)

abbrev pub log_parts : LogOfPiece → Float × Float
log_parts r = (r.0, r.1)
