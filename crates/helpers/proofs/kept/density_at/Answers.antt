-- `helpers::kept::density_at` meets its contract. Assumes nothing.
use mathlib.Core.Path.{sym, ap, ◌∙◌}
use lib.ListN.{get_or-eq_default}
use Rattle.helpers.specs.Kept.{density_from, growth_at}
use Rattle.helpers.proofs.Growths.{density-from-is}
use Rattle.helpers.proofs.kept.density_at.Goals as goal

pub returns : goal.returns
unfolding growth_at
returns c =
    let a = c.args in
    c.density_with.ensures
    ∙ sym (density-from-is a.lobe a.x a.gamma)
    ∙ ap (density_from a.lobe a.x a.gamma) (sym (get_or-eq_default a.kept.now _ c.if-i-kept.false))
