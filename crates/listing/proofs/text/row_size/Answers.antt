-- `listing::text::row_size` meets its contract. Assumes nothing.
use native.Mathlib.Omega.{arith}
use Rattle.listing.proofs.Decimals.{twenty}
use Rattle.listing.proofs.Lines.{row-length}
use Rattle.listing.proofs.text.row_size.Goals as goal

pub overflow_add-result : goal.overflow_add-result
overflow_add-result c = omega (arith, twenty c.args.count c.ranges.count.fits, twenty c.args.n c.ranges.n.fits)

pub overflow_add-result-2 : goal.overflow_add-result-2
overflow_add-result-2 c = omega (arith, twenty c.args.count c.ranges.count.fits, twenty c.args.n c.ranges.n.fits)

pub returns : goal.returns
returns c = omega (arith, row-length c.args.count c.args.n)
