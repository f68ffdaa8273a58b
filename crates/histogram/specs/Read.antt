-- The reader's call: 3 with its place, then 10; otherwise the bins. Definitions only. Assumes nothing.
use Rattle.std.specs.Prelude.{ℕ, List, length, take, Result, Ok, Err}
use Rattle.meaning.specs.Reply.{Reply, refuse, broken, give, chain}
use Rattle.meaning.specs.Answers.{number_of}
use Rattle.meaning.specs.Rows.{too_short}
use Rattle.histogram.specs.declared.reader.ReadError.{ReadError}
use Rattle.histogram.specs.declared.reader.ReadError.TheVariants.{Broken, Refused}
use Rattle.histogram.specs.File.{read_of}

-- into a slice of so many bins
abbrev pub fits_in : ℕ → Reply (List ℕ) → Reply (List ℕ)
fits_in room (refuse n) = refuse n
fits_in room (broken place) = broken place
fits_in room (give xs) = chain (too_short room (length xs)) (give xs)

unfoldable pub read_histogram_of : List ℕ → ℕ → Reply (List ℕ)
read_histogram_of file room = fits_in room (read_of file)

-- the place or the number of an error
abbrev pub error_says : {A : Type 0} → ReadError → Reply A
error_says (Broken place) = broken place
error_says (Refused refusal) = refuse (number_of refusal)

-- the paper's number and values for each answer
abbrev pub file_says : Result ℕ ReadError → Reply ℕ
file_says (Ok n) = give n
file_says (Err error) = error_says error

-- the same answer before the bins, of which n stand at the front of held, are handed over
abbrev pub held_says : ℕ → Result (Unit {0}) ReadError → List ℕ → Reply (List ℕ)
held_says n (Ok done) held = give (take n held)
held_says n (Err error) held = error_says error
