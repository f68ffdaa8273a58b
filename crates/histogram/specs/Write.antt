-- The writer's call: 1 for fewer than 2 bins, 2 for more than a file holds, 10 where the bytes do not fit; otherwise
-- the file. Definitions only. Assumes nothing.
use Rattle.std.specs.Prelude.{ℕ, List, [], ◌∷◌, ltb, length}
use Rattle.meaning.specs.Numbers as number
use Rattle.meaning.specs.Reply.{Reply, give, chain, test}
use Rattle.meaning.specs.Rows.{in_order, below_two, too_short}
use Rattle.histogram.specs.File.{most_bins, write_of}

-- into a slice of so many bytes
unfoldable pub write_histogram_of : List ℕ → ℕ → Reply (List ℕ)
write_histogram_of xs room =
    chain
    (in_order (below_two (length xs ∷ []) ∷ (test (ltb most_bins (length xs)) number.too_large ∷ []) ∷ too_short room
    (length (write_of xs)) ∷ []))
    (give (write_of xs))
