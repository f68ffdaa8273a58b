-- Lines of a template. Definitions only. Assumes nothing.
use Rattle.std.specs.Prelude.{ℕ, List, [], ◌∷◌, ◌++◌}
use Prim.Native.String.{String}
use Rattle.listing.specs.Listing.{ascii}

-- each line with its end
abbrev pub lines_of : List String → List ℕ
lines_of [] = []
lines_of (l ∷ ls) = ascii l ++ (ascii "\n" ++ lines_of ls)
