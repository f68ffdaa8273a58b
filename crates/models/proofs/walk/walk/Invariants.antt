-- `models::walk::walk` meets its contract. The invariant: what is left of the walk, from the count on and with the sum
-- so far, is the whole walk. Assumes nothing.
use mathlib.Core.Path.{◌≡◌}
use Prim.Native.Nat.{◌-◌}
use Rattle.models.specs.WalkHoists.{probability_of}
use Rattle.models.specs.Walk.{walk_from, walk_of}
use Rattle.models.proofs.walk.walk.Given as goal

abbrev pub invariant-loop-count : goal.invariant-loop-count
invariant-loop-count l =
    walk_of (probability_of l.single) l.allowed l.ceiling
    ≡ walk_from (probability_of l.single) l.allowed (l.ceiling - l.count) l.count l.cdf
