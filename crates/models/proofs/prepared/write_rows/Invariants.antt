-- `models::prepared::write_rows` meets its contract. Assumes nothing.
use mathlib.Core.Path.{◌≡◌}
use Prim.Native.Nat.{◌*◌, ◌≤◌}
use lib.ListN.{length}
use Rattle.meaning.specs.Over.{over}
use Rattle.models.specs.Prepared.{ready_rows}
use Rattle.models.proofs.prepared.write_rows.Given as goal

abbrev pub invariant-loop-n : goal.invariant-loop-n
invariant-loop-n l =
    (l.n ≤ l.rows) × (length l.out ≡ length l.initial.out) × (2 * l.rows ≤ length l.initial.out) × (l.out ≡ over (ready_rows l.n) l.initial.out)
