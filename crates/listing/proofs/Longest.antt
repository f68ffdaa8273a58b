-- How long the listing of a file can be. Assumes nothing.
use Prim.Native.Nat.{ℕ, ◌^◌, ◌≤◌, ◌<◌}
use mathlib.Core.List.{List}
use native.Mathlib.Omega.{arith}
use lib.ListN.{length}
use Rattle.histogram.specs.Claims.{Histogram}
use Rattle.histogram.specs.File.{most_bins}
use Rattle.listing.specs.Listing.{listing_of, refusal_of, longest_listing}
use Rattle.listing.proofs.Decimals.{digits-few, twenty}
use Rattle.listing.proofs.Lines.{listing-length, refusal-length, rows-within}

pub listing-fits : (xs : List ℕ) → Histogram xs → length (listing_of xs) ≤ longest_listing
unfolding most_bins
listing-fits xs h =
    let l = listing-length xs in
    let d = digits-few 3 (length xs) (omega (arith, h.most)) in
    let r = rows-within 3 1 xs (omega (arith, h.most)) h.fit in
    omega (arith, h.most)

pub refusal-fits : (place : ℕ) → place < 2 ^ 64 → length (refusal_of place) ≤ longest_listing
unfolding most_bins
refusal-fits place h = let l = refusal-length place in let d = twenty place h in omega arith
