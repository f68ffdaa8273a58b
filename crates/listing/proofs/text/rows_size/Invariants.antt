-- `listing::text::rows_size` meets its contract: what is counted, and what is left to count, make up the whole.
-- Assumes nothing.
use Prim.Native.Nat.{suc, ◌+◌, ◌*◌, ◌≤◌}
use mathlib.Core.Path.{◌≡◌}
use lib.ListN.{length, drop}
use Rattle.listing.specs.Listing.{rows_of}
use Rattle.listing.proofs.text.rows_size.Given as goal

abbrev pub invariant-loop-i : goal.invariant-loop-i
invariant-loop-i l = (l.size ≤ 42 * l.i) × (l.size + length (rows_of (suc l.i) (drop l.i l.bins)) ≡ length (rows_of 1 l.bins))
