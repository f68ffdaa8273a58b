-- The answers of the two calls, by their tests. Assumes nothing.
use Prim.Native.Nat.{ℕ, ◌≤◌, ◌<◌}
use mathlib.Core.Path.{◌≡◌}
use mathlib.Core.List.{List}
use lib.ListN.{length, length-append}
use borrow.Author.Tests.{lt-ltb, le-ltb}
use Rattle.meaning.specs.Reply.{refuse, give}
use Rattle.meaning.specs.Rows.{most as limit}
use Rattle.listing.specs.Listing.{listing_of, refusal_of, list_histogram_of, list_refusal_of}
use Rattle.listing.proofs.Decimals.{twenty}
use Rattle.listing.proofs.Lines.{line-length}

module _ (place room : ℕ) where
  pub no-room-for-line : room < length (refusal_of place) → list_refusal_of place room ≡ refuse 10
  unfolding list_refusal_of
  no-room-for-line h = rw (lt-ltb room (length (refusal_of place)) h)

  pub line-written : length (refusal_of place) ≤ room → list_refusal_of place room ≡ give (refusal_of place)
  unfolding list_refusal_of
  line-written h = rw (le-ltb room (length (refusal_of place)) h)

module _ (xs : List ℕ) (room : ℕ) where
  pub too_few : length xs < 2 → list_histogram_of xs room ≡ refuse 1
  unfolding list_histogram_of
  too_few h = rw (lt-ltb (length xs) 2 h)

  module _ (two : 2 ≤ length xs) where
    pub too_many : limit < length xs → list_histogram_of xs room ≡ refuse 2
    unfolding list_histogram_of
    too_many h = rw (le-ltb (length xs) 2 two, lt-ltb limit (length xs) h)

    module _ (most : length xs ≤ limit) where
      pub too_short : room < length (listing_of xs) → list_histogram_of xs room ≡ refuse 10
      unfolding list_histogram_of
      too_short h = rw (le-ltb (length xs) 2 two, le-ltb limit (length xs) most, lt-ltb room (length (listing_of xs)) h)

      pub lists : length (listing_of xs) ≤ room → list_histogram_of xs room ≡ give (listing_of xs)
      unfolding list_histogram_of
      lists h = rw (le-ltb (length xs) 2 two, le-ltb limit (length xs) most, le-ltb room (length (listing_of xs)) h)

pub ruleset refusals = (no-room-for-line, line-written, line-length, twenty)

pub ruleset answers = (too_few, too_many, too_short, lists, line-length, length-append, twenty)
