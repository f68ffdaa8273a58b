-- `templates::decimals::put_decimal` meets its contract. Assumes nothing.
use Rattle.templates.proofs.Numerals.{spelled}
use Rattle.templates.proofs.Cuts.{put_same}
use mathlib.Core.Path.{◌∙◌}
use Rattle.templates.proofs.decimals.put_decimal.Goals as goal

pub returns : goal.returns
returns c =
    let d = c.decimal-size.ensures in
    let r = put_same _ _ _ _ _ _ (d.digits ∙ spelled _ _ d.len) (c.put_text.ensures.value, c.put_text.ensures.out_after) in
    record { value = r.0; out_after = r.1 }
