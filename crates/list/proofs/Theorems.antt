-- THE LISTING PROGRAM reads the first bytes of a file, one more than the longest accepted file has, and what it writes
-- for them is the listing of the whole file, however long that is.
-- Assumes nothing.
use Prim.Native.Nat.{ℕ, ◌+◌}
use mathlib.Core.Path.{◌≡◌, ap}
use mathlib.Core.List.{List}
use native.Mathlib.Omega.{arith}
use lib.ListN.{take}
use Rattle.histogram.specs.Claims.{Below, longest_file}
use Rattle.histogram.proofs.Theorems.{first-bytes-decide}
use Rattle.listing.specs.Listing.{listed_of, list_of}

pub whole-file : (file : List ℕ) → Below 256 file → list_of (take (longest_file + 1) file) ≡ list_of file
whole-file file b = ap listed_of (first-bytes-decide file b (longest_file + 1) (omega arith))
