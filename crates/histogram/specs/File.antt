-- The histogram file: the form, which is 1, the bin count, each bin, and the end. Reading is a fold of a one-byte step
-- over a small state.
-- Definitions only. Assumes nothing.
use Rattle.std.specs.Prelude.{ℕ, zero, suc, ◌+◌, ◌-◌, ◌^◌, List, [], ◌∷◌, ◌++◌, length, drop}
use Rattle.meaning.specs.Reply.{Reply, broken, give}
use Rattle.histogram.specs.declared.number.Taken.{Taken}
use Rattle.histogram.specs.declared.number.Taken.TheVariants.{More, Whole, Wrong}
use Rattle.histogram.specs.Number.{Range, between, take_byte_of, numbers_bytes}

-- the most bins that a file holds
unfoldable pub most_bins : ℕ
most_bins = 2047

-- ---- reading

-- what the next number is: the form, the bin count, or a bin, with how many are still to come and those read so far
pub data Stage : Type 0 where
  form : Stage
  count : Stage
  bins : ℕ → List ℕ → Stage

-- behind the last bin no number may come
unfoldable pub range_of : Stage → Range
range_of form = between 1 1
range_of count = between 2 most_bins
range_of (bins zero done) = between 1 0
range_of (bins (suc left) done) = between 0 (2 ^ 32 - 1)

unfoldable pub next_of : Stage → ℕ → Stage
next_of form n = count
next_of count n = bins n []
next_of (bins zero done) n = bins zero done
next_of (bins (suc left) done) n = bins left (done ++ (n ∷ []))

-- reading a number: the place where it starts, its value so far, and how many groups that is; or stopped, at the place
-- of the fault
pub data State : Type 0 where
  reading : Stage → ℕ → ℕ → ℕ → State
  stopped : ℕ → State

abbrev pub goes_on : Stage → ℕ → ℕ → Taken → State
goes_on stage start groups (More value) = reading stage start value (suc groups)
goes_on stage start groups (Whole n) = reading (next_of stage n) (start + suc groups) 0 0
goes_on stage start groups Wrong = stopped start

-- one byte
unfoldable pub step_of : State → ℕ → State
step_of (reading stage start value groups) byte = goes_on stage start groups (take_byte_of (range_of stage) value groups byte)
step_of (stopped place) byte = stopped place

-- the bytes of a part of a file, one after another
unfoldable pub steps_of : State → List ℕ → State
steps_of state [] = state
steps_of state (byte ∷ rest) = steps_of (step_of state byte) rest

-- the end: all bins are there, or the number that starts here is cut short or missing
unfoldable pub ends_of : Stage → ℕ → Reply (List ℕ)
ends_of form start = broken start
ends_of count start = broken start
ends_of (bins zero done) start = give done
ends_of (bins (suc left) done) start = broken start

abbrev pub end_of : State → Reply (List ℕ)
end_of (reading stage start value groups) = ends_of stage start
end_of (stopped place) = broken place

-- a file from a place on, where a number starts
unfoldable pub read_from : Stage → List ℕ → ℕ → Reply (List ℕ)
read_from stage file place = end_of (steps_of (reading stage place 0 0) (drop place file))

-- the bins that a file holds, or the place of its first fault
unfoldable pub read_of : List ℕ → Reply (List ℕ)
read_of file = end_of (steps_of (reading form 0 0 0) file)

-- ---- writing

-- the file of some bins
unfoldable pub write_of : List ℕ → List ℕ
write_of xs = numbers_bytes (1 ∷ length xs ∷ xs)
