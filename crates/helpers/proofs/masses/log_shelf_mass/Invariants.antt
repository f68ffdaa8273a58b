-- `helpers::masses::log_shelf_mass` meets its contract. The loop's invariant: the entries behind entry 0 are added up,
-- one for each turn. Assumes nothing.
use mathlib.Core.Path.{◌≡◌}
use mathlib.Core.Bool.{true}
use Prim.Native.Nat.{◌+◌}
use lib.Ieee.{inf}
use Rattle.meaning.specs.Fold.{fold}
use Rattle.helpers.specs.Masses.{shelf_step}
use Rattle.helpers.proofs.masses.log_shelf_mass.Given as goal

abbrev pub invariant-loop-entry : goal.invariant-loop-entry
invariant-loop-entry l = l.total ≡ fold (shelf_step l.table) 1 (l.entry-index + 1) (inf true)
