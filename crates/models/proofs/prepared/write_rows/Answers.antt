-- `models::prepared::write_rows` meets its contract. Assumes nothing.
use mathlib.Core.Path.{refl}
use Prim.Native.Nat.{zero-le}
use native.Mathlib.Omega.{arith}
use lib.ListN.{length-set}
use Rattle.models.proofs.ReadyCost.{rows_none, rows_more}
use Rattle.models.proofs.prepared.write_rows.Goals as goal

pub loop-n-init : goal.loop-n-init
loop-n-init c = (zero-le, refl, c.requires, rows_none _)

pub loop-n-preserved : goal.loop-n-preserved
loop-n-preserved c =
    let inv = c.loop-n.invariant in (
      omega arith,
      simp length-set inv.1,
      inv.2,
      rows_more _ _ _ _ _ inv.3 (omega arith) c.ln.ensures c.lgamma.ensures,
    )
