-- `fitter::starts::too_short` meets its contract. Assumes nothing.
use mathlib.Core.Path.{sym}
use native.Mathlib.Omega.{arith}
use Rattle.fitter.proofs.Divided.{none-short, divided}
use Rattle.fitter.proofs.starts.too_short.Goals as goal

pub returns-then-each-eq0 : goal.returns-then-each-eq0
returns-then-each-eq0 c =
    let a = c.args in
    rw c.if-each-eq0.true (sym (none-short a.room a.width a.rows a.seeds))

pub returns : goal.returns
returns c =
    let a = c.args in
    divided a.room a.width a.each a.rows a.seeds c.requires.width_nonzero (omega (arith, c.if-each-eq0.false)) c.requires.rows_nonzero
