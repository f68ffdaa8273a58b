-- `listing::text::put_rows` meets its contract: at each turn the bytes still to come are the rows of the bins left.
-- Assumes nothing.
use Prim.Native.Nat.{suc}
use lib.ListN.{drop}
use Rattle.histogram.proofs.Puts.{Putting}
use Rattle.listing.specs.Listing.{rows_of}
use Rattle.listing.proofs.text.put_rows.Given as goal

abbrev pub invariant-loop-i : goal.invariant-loop-i
invariant-loop-i l = Putting (rows_of 1 l.bins) l.initial.out l.out (rows_of (suc l.i) (drop l.i l.bins)) l.at
