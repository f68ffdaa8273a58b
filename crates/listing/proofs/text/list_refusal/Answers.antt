-- `listing::text::list_refusal` meets its contract. Assumes nothing.
use native.Mathlib.Omega.{arith}
use lib.ListN.{length}
use Rattle.listing.specs.Listing.{refusal_of}
use Rattle.listing.proofs.Lines.{refusal-length}
use Rattle.listing.proofs.Refusals.{line-written}
use Rattle.listing.proofs.text.list_refusal.Goals as goal

pub returns-clause-out_after : goal.returns-clause-out_after
unfolding refusal_of
returns-clause-out_after c =
    let a = c.args in
    rw (line-written a.place (length a.out.now) (omega (arith, refusal-length a.place))) c.put_line.ensures.1
