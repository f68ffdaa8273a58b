-- `listing::text::decimal_size` meets its contract: the digits counted, and those of what is left, make up the whole.
-- Assumes nothing.
use Prim.Native.Nat.{◌+◌}
use mathlib.Core.Path.{◌≡◌}
use lib.ListN.{length}
use Rattle.listing.specs.Decimal.{decimal_of}
use Rattle.listing.proofs.text.decimal_size.Given as goal

abbrev pub invariant-loop-left : goal.invariant-loop-left
invariant-loop-left l = l.size + length (decimal_of l.left) ≡ 1 + length (decimal_of l.n)

abbrev pub decreases-loop-left : goal.decreases-loop-left
decreases-loop-left l = l.left
