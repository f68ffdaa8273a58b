-- `histogram::number::number_at` meets its contract: at each turn what is left to read of the number is what the whole
-- is. Assumes nothing.
use Prim.Native.Nat.{◌-◌, ◌^◌, ◌≤◌}
use mathlib.Core.Path.{◌≡◌}
use lib.ListN.{drop}
use Rattle.histogram.specs.Number.{between, number_from, number_at_of}
use Rattle.histogram.proofs.number.number_at.Given as goal

abbrev pub invariant-loop-i : goal.invariant-loop-i
invariant-loop-i l =
    (l.weight ≡ 128 ^ (l.i - l.start)) × (l.value ≤ l.most) × (number_at_of (between l.least l.most) l.file l.start ≡ number_from (between l.least l.most) l.start l.value (l.i - l.start) (drop l.i l.file))
