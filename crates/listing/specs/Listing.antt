-- The listing of document 01: `bins` and the bin count, then a line for each count with its bin. For a file that is
-- refused there is one line, with the place.
-- Definitions only. Assumes nothing.
use Rattle.std.specs.Prelude.{ℕ, suc, ◌+◌, ◌*◌, List, [], ◌∷◌, ◌++◌, length}
use Prim.Native.Char.{code}
use Prim.Native.String.{String, [] as none, ◌∷◌ as ◌then◌}
use Rattle.meaning.specs.Reply.{Reply, refuse, broken, give, chain}
use Rattle.meaning.specs.Rows.{in_order, below_two, above_most, too_short}
use Rattle.listing.specs.Decimal.{decimal_of}
use Rattle.histogram.specs.File.{most_bins, read_of}

-- the codes of a text
abbrev pub ascii : String → List ℕ
ascii none = []
ascii (c then cs) = code c ∷ ascii cs

-- a word, a number and the end of the line
unfoldable pub line_of : List ℕ → ℕ → List ℕ
line_of word n = word ++ (decimal_of n ++ ascii "\n")

-- a count and its bin
unfoldable pub row_of : ℕ → ℕ → List ℕ
row_of count n = decimal_of count ++ line_of (ascii " ") n

-- a row for each bin, from a count on
unfoldable pub rows_of : ℕ → List ℕ → List ℕ
rows_of count [] = []
rows_of count (n ∷ ns) = row_of count n ++ rows_of (suc count) ns

unfoldable pub listing_of : List ℕ → List ℕ
listing_of xs = line_of (ascii "bins ") (length xs) ++ rows_of 1 xs

unfoldable pub refusal_of : ℕ → List ℕ
refusal_of place = line_of (ascii "refused 3 at ") place

-- what is listed of what reading a file gives: no other number comes (`never-refused`)
abbrev pub listed_of : Reply (List ℕ) → List ℕ
listed_of (refuse n) = []
listed_of (broken place) = refusal_of place
listed_of (give xs) = listing_of xs

-- what the listing program writes for a file
abbrev pub list_of : List ℕ → List ℕ
list_of file = listed_of (read_of file)

-- no file's listing is longer: ten bytes for the first line, and for each bin four digits, ten digits, a space and the
-- end of the line
abbrev pub longest_listing : ℕ
longest_listing = 10 + 16 * most_bins

-- ---- the calls: 1 for fewer than 2 bins, 2 for more than 65,535, 10 where the bytes are too few
unfoldable pub list_histogram_of : List ℕ → ℕ → Reply (List ℕ)
list_histogram_of xs room =
    chain (in_order
    (below_two (length xs ∷ []) ∷ above_most (length xs ∷ []) ∷ too_short room (length (listing_of xs)) ∷ []))
    (give (listing_of xs))

unfoldable pub list_refusal_of : ℕ → ℕ → Reply (List ℕ)
list_refusal_of place room = chain (too_short room (length (refusal_of place))) (give (refusal_of place))
