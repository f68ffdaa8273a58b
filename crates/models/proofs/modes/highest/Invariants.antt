-- `models::modes::highest` meets its contract. The survival that the loop carries is that of its count. Assumes
-- nothing.
use mathlib.Core.Path.{◌≡◌}
use mathlib.Core.Bool.{true, false}
use Prim.Native.Nat.{◌+◌}
use lib.Ieee.{inf}
use Rattle.meaning.proofs.Loops.{Folded}
use Rattle.routines.specs.Ops.{of_count}
use Rattle.models.specs.Errors.{ln_tail_of, survival_of}
use Rattle.models.specs.Modes.{stands, higher_of}
use Rattle.models.proofs.modes.highest.Given as goal

abbrev pub invariant-loop-count : goal.invariant-loop-count
invariant-loop-count l =
    (l.ln_tail ≡ ln_tail_of l.p) × (l.survival ≡ survival_of l.p (of_count l.count)) ×
    Folded (higher_of l.p) (stands 1 (inf true) false) 1 (l.top + 1) l.best l.count
