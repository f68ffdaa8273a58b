-- `models::window_masses::masses_of` meets its contract. Assumes nothing.
use mathlib.Core.Path.{◌∙◌}
use mir.Syntax.{w16}
use mir.Val.{Fits}
use borrow.Author.Rules.{rules}
use native.Mathlib.Omega.{arith}
use Rattle.models.proofs.Points.{plain-masses}
use Rattle.models.proofs.window_masses.masses_of.Goals as goal

pub returns : goal.returns
returns c =
    let a = c.args in
    let few : Fits w16 a.end.count = search rules in
    c.masses_at.ensures.value
    ∙ plain-masses a.p _ a.table.now a.end.count (omega (arith, few)) c.steady_of.ensures
