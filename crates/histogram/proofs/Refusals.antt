-- The answer of the writer's call, by its tests. Assumes nothing.
use Prim.Native.Nat.{ℕ, ◌≤◌, ◌<◌}
use mathlib.Core.Path.{◌≡◌}
use mathlib.Core.List.{List}
use lib.ListN.{length}
use borrow.Author.Tests.{lt-ltb, le-ltb}
use Rattle.meaning.specs.Reply.{refuse, give}
use Rattle.histogram.specs.File.{most_bins, write_of}
use Rattle.histogram.specs.Write.{write_histogram_of}

module _ (xs : List ℕ) (room : ℕ) where
  pub too_few : length xs < 2 → write_histogram_of xs room ≡ refuse 1
  unfolding write_histogram_of
  too_few h = rw (lt-ltb (length xs) 2 h)

  module _ (two : 2 ≤ length xs) where
    pub too_many : most_bins < length xs → write_histogram_of xs room ≡ refuse 2
    unfolding write_histogram_of
    too_many h = rw (le-ltb (length xs) 2 two, lt-ltb most_bins (length xs) h)

    module _ (most : length xs ≤ most_bins) where
      pub too_short : room < length (write_of xs) → write_histogram_of xs room ≡ refuse 10
      unfolding write_histogram_of
      too_short h = rw (le-ltb (length xs) 2 two, le-ltb most_bins (length xs) most, lt-ltb room (length (write_of xs)) h)

      pub writes : length (write_of xs) ≤ room → write_histogram_of xs room ≡ give (write_of xs)
      unfolding write_histogram_of
      writes h = rw (le-ltb (length xs) 2 two, le-ltb most_bins (length xs) most, le-ltb room (length (write_of xs)) h)

pub ruleset answers = (too_few, too_many, too_short, writes)
