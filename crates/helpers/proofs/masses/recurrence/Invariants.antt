-- `helpers::masses::recurrence` meets its contract. Assumes nothing.
use mathlib.Core.Path.{◌≡◌}
use Prim.Native.Nat.{ℕ, ◌≤◌}
use lib.Ieee.{Float}
use Rattle.helpers.proofs.Recurrences.{Summed}
use Rattle.helpers.proofs.masses.recurrence.Given as goal

abbrev pub invariant-loop-count : goal.invariant-loop-count
invariant-loop-count g l =
    (f : ℕ → Float) → ((count : ℕ) (log : Float) → count ≤ l.top → goal.R-post g l.ratio count log → log ≡ f count) → Summed f l.first l.top l.total l.term l.count
