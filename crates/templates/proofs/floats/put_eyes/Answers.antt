-- `templates::floats::put_eyes` meets its contract. Assumes nothing.
use Rattle.templates.proofs.Cuts.{put_same, joined}
use Rattle.templates.proofs.Eyes.{eyes-minus, eyes-plain, eyes-far}
use Rattle.templates.proofs.floats.put_eyes.Goals as goal

pub returns-then-x : goal.returns-then-x
returns-then-x c =
    let r = put_same _ _ _ _ _ _
    (eyes-minus _ _ c.size-t.ensures c.if-t.true c.if-x.true)
    (joined _ _ _ _ _ _ _ _ (c.put_text-behind.ensures.value, c.put_text-behind.ensures.out_after) (c.put_places.ensures.value, c.put_places.ensures.out_after)) in
    record { value = r.0; out_after = r.1 }

pub returns-then-t : goal.returns-then-t
returns-then-t c =
    let r = put_same _ _ _ _ _ _
    (eyes-plain _ _ c.size-t.ensures c.if-t.true c.if-x.false)
    (c.put_places-then-t.ensures.value, c.put_places-then-t.ensures.out_after) in
    record { value = r.0; out_after = r.1 }

pub returns : goal.returns
returns c =
    let r = put_same _ _ _ _ _ _ (eyes-far _ _ c.size-t.ensures c.if-t.false) (c.put_text.ensures.value, c.put_text.ensures.out_after) in
    record { value = r.0; out_after = r.1 }
