-- `listing::text::list_histogram` meets its contract: the line of the bin count, and the rows behind it. Assumes
-- nothing.
use Prim.Native.Nat.{ℕ, ◌^◌, ◌≤◌, ◌<◌}
use mathlib.Core.List.{◌++◌}
use native.Mathlib.Omega.{arith}
use lib.ListN.{length}
use Rattle.histogram.proofs.Lists.{below_each}
use Rattle.listing.specs.Listing.{ascii, line_of, rows_of, listing_of}
use Rattle.listing.proofs.Decimals.{twenty}
use Rattle.listing.proofs.Lines.{listing-length, rows-within}
use Rattle.listing.proofs.Joins.{puts-rest}
use Rattle.listing.proofs.Refusals.{lists}
use Rattle.listing.proofs.text.list_histogram.Goals as goal

pub overflow_add-decimal_size-2 : goal.overflow_add-decimal_size-2
overflow_add-decimal_size-2 c =
    let xs = c.args.bins.now in
    let t = twenty (length xs) (omega arith) in
    let r = rows-within 4 1 xs (omega arith) (below_each (2 ^ 32) xs (λ (i : ℕ) (_ : i < length xs). (c.type_inv.bins i).fits)) in
    omega arith

pub returns-clause-out_after : goal.returns-clause-out_after
unfolding listing_of
returns-clause-out_after c =
    let a = c.args in
    let xs = a.bins.now in
    let p = c.put_line-first in
    let r = c.put_rows in
    let long : length (line_of (ascii "bins ") (length xs) ++ rows_of 1 xs) ≤ length a.out.now = omega (arith, listing-length xs) in
    rw (lists xs (length a.out.now) c.if-bins-lt2.false c.if-bins-gt-MOST.false long)
    (puts-rest _ _ _ long p.new.out p.result p.ensures.0 p.ensures.1 r.new.out r.result r.ensures.0 r.ensures.1).1
