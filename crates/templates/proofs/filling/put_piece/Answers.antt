-- `templates::filling::put_piece` meets its contract. Assumes nothing.
use mathlib.Core.Path.{sym, ◌∙◌}
use Rattle.templates.proofs.Cuts.{put_same, no_text}
use Rattle.templates.proofs.Pieces.{piece-whole, piece-float, piece-bracket, piece_byte}
use Rattle.templates.proofs.filling.put_piece.Goals as goal

pub returns-then-c-eq35 : goal.returns-then-c-eq35
returns-then-c-eq35 c =
    let r = put_same _ _ _ _ _ _ (sym (piece-whole _ _ c.if-c-eq35.true)) (c.put_decimal.ensures.value, c.put_decimal.ensures.out_after) in
    record { value = r.0; out_after = r.1 }

pub returns-then-c-eq126 : goal.returns-then-c-eq126
returns-then-c-eq126 c =
    let r = put_same _ _ _ _ _ _ (sym (piece-float _ _ c.if-c-eq35.false c.if-c-eq126.true)) (c.put_float.ensures.value, c.put_float.ensures.out_after) in
    record { value = r.0; out_after = r.1 }

pub returns-then-is_bracket : goal.returns-then-is_bracket
returns-then-is_bracket c =
    let none = piece-bracket _ _ c.if-c-eq35.false c.if-c-eq126.false (sym c.is_bracket.ensures ∙ c.if-is_bracket.true) in
    let r = put_same _ _ _ _ _ _ (sym none) (no_text _ _) in
    record { value = r.0; out_after = r.1 }

pub returns : goal.returns
returns c =
    let byte = piece_byte _ _ c.if-c-eq35.false c.if-c-eq126.false (sym c.is_bracket.ensures ∙ c.if-is_bracket.false) in
    let r = put_same _ _ _ _ _ _ (sym byte) (c.put_text.ensures.value, c.put_text.ensures.out_after) in
    record { value = r.0; out_after = r.1 }
