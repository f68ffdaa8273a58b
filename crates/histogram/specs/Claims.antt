-- What the theorems speak of: bytes, numbers that may come in turn, and the first fault of a file. Definitions only.
-- Assumes nothing.
use Rattle.std.specs.Prelude.{ℕ, zero, suc, ◌+◌, ◌*◌, ◌^◌, ◌≤◌, ◌<◌, ◌≡◌, List, [], ◌∷◌, ◌++◌, length}
use Rattle.meaning.specs.Reply.{Reply, give}
use Rattle.histogram.specs.Number.{Range, number_bytes, numbers_bytes}
use Rattle.histogram.specs.File.{most_bins, Stage, form, count, bins, range_of, next_of, reading, stopped, steps_of}
use Rattle.histogram.specs.File.{read_of}

-- each number of a list is below m: a file is a list of bytes, `Below 256`
abbrev pub Below : ℕ → List ℕ → Type 0
Below m [] = Unit {0}
Below m (x ∷ xs) = (x < m) × Below m xs

-- the bins that a file can hold
pub record Histogram (xs : List ℕ) : Type 0 where
  pub two : 2 ≤ length xs
  pub most : length xs ≤ most_bins
  pub fit : Below (2 ^ 32) xs

-- each byte has its top bit set, so that another group has to come
abbrev pub Continued : List ℕ → Type 0
Continued [] = Unit {0}
Continued (b ∷ bs) = (128 ≤ b) × (b < 256) × Continued bs

abbrev pub In : Range → ℕ → Type 0
In range n = (range.least ≤ n) × (n ≤ range.most)

-- each of some numbers is one that may come in its turn
abbrev pub Allowed : Stage → List ℕ → Type 0
Allowed stage [] = Unit {0}
Allowed stage (n ∷ ns) = In (range_of stage) n × Allowed (next_of stage n) ns

-- what the next number is behind some numbers
abbrev pub behind : Stage → List ℕ → Stage
behind stage [] = stage
behind stage (n ∷ ns) = behind (next_of stage n) ns

-- nothing more has to come
abbrev pub Complete : Stage → Type 0
Complete form = ⊥
Complete count = ⊥
Complete (bins zero done) = Unit {0}
Complete (bins (suc left) done) = ⊥

-- no number of the range stands at the front of the bytes: there is none, or it is cut short, too long, or outside the
-- range
abbrev pub None : Range → List ℕ → Type 0
None range bytes = (n : ℕ) (rest : List ℕ) → In range n → bytes ≡ number_bytes n ++ rest → ⊥

-- the first number at fault starts at the place: whole numbers come before it, each allowed, and then no number that is
pub record FirstFault (file : List ℕ) (place : ℕ) : Type 0 where
  pub numbers : List ℕ
  pub rest : List ℕ
  pub parts : file ≡ numbers_bytes numbers ++ rest
  pub allowed : Allowed form numbers
  pub start : place ≡ length (numbers_bytes numbers)
  pub none : None (range_of (behind form numbers)) rest
  pub more : rest ≡ [] → Complete (behind form numbers) → ⊥

-- no accepted file is longer: a byte for the form, two for the bin count and five for each bin
abbrev pub longest_file : ℕ
longest_file = 3 + 5 * most_bins

-- some bytes more make a file that is accepted
pub record Continues (file : List ℕ) : Type 0 where
  pub bytes : List ℕ
  pub are : Below 256 bytes
  pub xs : List ℕ
  pub accepted : read_of (file ++ bytes) ≡ give xs

-- each file of a table is read as the table says
abbrev pub Rows : List (List ℕ × Reply (List ℕ)) → Type 0
Rows [] = Unit {0}
Rows (row ∷ rows) = (read_of row.0 ≡ row.1) × Rows rows

-- the reader has stopped
pub record Stops (file : List ℕ) : Type 0 where
  pub place : ℕ
  pub stops : steps_of (reading form 0 0 0) file ≡ stopped place
