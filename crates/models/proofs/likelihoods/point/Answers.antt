-- `models::likelihoods::point` meets its contract. Assumes nothing.
use mathlib.Core.Path.{◌∙◌}
use native.Mathlib.Omega.{arith}
use Rattle.helpers.proofs.Growths.{first-at-is, second-at-is}
use Rattle.models.specs.Hoists.{point_from}
use Rattle.models.proofs.likelihoods.point.Goals as goal

pub returns : goal.returns
unfolding point_from
returns c =
    let a = c.args in
    let few = c.requires.le_count in
    let held = c.requires.kept in
    let here = c.density_at-lobe.ensures ∙ first-at-is held a.count a.gamma few (omega arith) in
    let there = c.density_at-second.ensures ∙ second-at-is held a.count a.gamma few (omega arith) in
    rw (c.lse3.ensures, c.mix_at-single.ensures, c.log_probability_between-tail.ensures)
    (rw (there, here))
