-- `models::modes::outdone` meets its contract. Assumes nothing.
use mathlib.Core.Path.{◌≡◌}
use mathlib.Core.Bool.{true}
use lib.Ieee.{le}
use Rattle.routines.specs.Constants.{zero}
use Rattle.routines.specs.Ops.{◌⊖◌}
use Rattle.routines.proofs.Tests.{yes}
use Rattle.models.proofs.Outdone.{outdone}
use Rattle.models.proofs.modes.outdone.Goals as goal

pub returns : goal.returns
returns c =
    let a = c.args in
    λ (e : le (a.next ⊖ a.survival) zero ≡ true). (
      c.if-count-le1.false,
      outdone a.ln_tail a.survival a.next a.best (yes c.well_formed.1.1.1.0.1) (c.if-not-ln_tail.false)
          (c.if-not-survival-best.false) c.if-survival-next.false e,
    )
