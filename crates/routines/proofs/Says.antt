-- Rows of ln's table with the same parts are the same. Assumes nothing.
use Rattle.std.proofs.Common.{◌≡◌, ap}
use lib.Ieee.{Float}
use Rattle.routines.specs.LnTable.{piece_parts, log_parts}
use Rattle.routines.specs.declared.ln_table.Piece.{Piece}
use Rattle.routines.specs.declared.ln_table.LogOfPiece.{LogOfPiece}

pub piece-same : (a b : Piece) → piece_parts a ≡ piece_parts b → a ≡ b
piece-same a b e = ap (λ (p : Float × Float). (p.0, p.1)) e

pub log-same : (a b : LogOfPiece) → log_parts a ≡ log_parts b → a ≡ b
log-same a b e = ap (λ (p : Float × Float). (p.0, p.1)) e
