-- `listing::text::put_decimal` meets its contract: at each turn the digits still to come are those of what is left.
-- Assumes nothing.
use Rattle.listing.specs.Decimal.{decimal_of}
use Rattle.listing.proofs.Backs.{Backing}
use Rattle.listing.proofs.text.put_decimal.Given as goal

abbrev pub invariant-loop-left : goal.invariant-loop-left
invariant-loop-left l = Backing (decimal_of l.n) l.initial.out l.out (decimal_of l.left) l.at

abbrev pub decreases-loop-left : goal.decreases-loop-left
decreases-loop-left l = l.left
