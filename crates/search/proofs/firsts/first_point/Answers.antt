-- `search::firsts::first_point` meets its contract. Assumes nothing.
use mathlib.Core.Path.{◌∙◌}
use native.Mathlib.Omega.{arith}
use Rattle.search.proofs.FirstRows.{first-same, first-other}
use Rattle.search.proofs.firsts.first_point.Goals as goal

pub returns-then-i-eq0 : goal.returns-then-i-eq0
returns-then-i-eq0 c =
    let a = c.args in
    c.copy_from_slice.ensures.after ∙ first-same a.start.now a.i (omega arith)

pub returns : goal.returns
returns c =
    let a = c.args in
    rw c.copy_from_slice.ensures.after (first-other a.start.now a.i (omega arith))
