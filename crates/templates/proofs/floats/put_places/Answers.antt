-- `templates::floats::put_places` meets its contract. Assumes nothing.
use Rattle.templates.proofs.Cuts.{put_same, joined}
use Rattle.templates.specs.Floats.{six_of, places_of}
use Rattle.listing.specs.Decimal.{decimal_of}
use mathlib.Core.Path.{ap, ◌∙◌}
use Rattle.templates.proofs.floats.put_places.Goals as goal

pub returns : goal.returns
unfolding places_of
returns c =
    let p = c.parts_of-p.ensures in
    let r = joined _ _ _ _ _ _ _ _
    (put_same _ _ _ _ _ _ (ap decimal_of p.whole_value) (c.put_decimal-point.ensures.value, c.put_decimal-point.ensures.out_after))
    (joined _ _ _ _ _ _ _ _ (c.put_text-behind.ensures.value, c.put_text-behind.ensures.out_after)
    (put_same _ _ _ _ _ _ (c.six-tail.ensures ∙ ap six_of p.millionths_value) (c.put_text.ensures.value, c.put_text.ensures.out_after))) in
    record { value = r.0; out_after = r.1 }
