-- `templates::filling::put_shown` meets its contract. Assumes nothing.
use mathlib.Core.Path.{sym, ap, ◌∙◌}
use Rattle.templates.specs.Filling.{piece_of}
use Rattle.templates.proofs.Cuts.{put_same, no_text}
use Rattle.templates.proofs.Pieces.{hidden, shown}
use Rattle.templates.proofs.filling.put_shown.Goals as goal

pub returns-then-s-ne0 : goal.returns-then-s-ne0
returns-then-s-ne0 c =
    let r = put_same _ _ _ _ _ _ (sym (hidden _ _ _ c.if-s-ne0.true)) (no_text _ _) in
    record { value = r.0; out_after = r.1 }

pub returns : goal.returns
returns c =
    let r = put_same _ _ _ _ _ _ (ap (piece_of c.args.c) c.value_at.ensures ∙ sym (shown _ _ _ c.if-s-ne0.false)) (c.put_piece.ensures.value, c.put_piece.ensures.out_after) in
    record { value = r.0; out_after = r.1 }
