-- `listing::text::put_row` meets its contract. Assumes nothing.
use Rattle.listing.specs.Decimal.{decimal_of}
use Rattle.listing.specs.Listing.{ascii, line_of, row_of}
use Rattle.listing.proofs.Joins.{puts-rest}
use Rattle.listing.proofs.text.put_row.Goals as goal

pub returns : goal.returns
unfolding row_of
returns c =
    let p = c.put_decimal-behind in
    let l = c.put_line in
    puts-rest (decimal_of c.args.count) (line_of (ascii " ") c.args.n) c.args.out.now c.requires p.new.out p.result p.ensures.0 p.ensures.1
    l.new.out l.result l.ensures.0 l.ensures.1
