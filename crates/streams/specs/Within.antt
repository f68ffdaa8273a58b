-- What was read lies within the lent bytes, and is what the reader gave. Definitions only. Assumes nothing.
use Rattle.std.specs.Prelude.{ℕ, ◌<◌, List, length, take, Option, Result, Ok, Err}
use Rattle.std.specs.Io.KnownBytes.{Consumes, IsAtEnd}
use Rattle.std.specs.Counts.{IsPrefixLen}

abbrev pub Within : {E : Type 0} → Result ℕ E → List ℕ → Type 0
Within (Ok n) xs = IsPrefixLen n xs
Within (Err e) xs = Unit {0}

-- of a reader whose bytes are known: they begin with those that were read, and none is left where the lent bytes are not full
abbrev pub IsFront : {E : Type 0} → Result ℕ E → List ℕ → Option (List ℕ) → Option (List ℕ) → Type 0
IsFront (Ok n) xs old new = Consumes old new (take n xs) × (n < length xs → IsAtEnd new)
IsFront (Err e) xs old new = Unit {0}
