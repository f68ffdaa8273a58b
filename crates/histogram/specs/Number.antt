-- The numbers of a file, in groups of seven bits: low group first, the top bit set on all but the last, shortest form
-- only.
-- Reading takes a byte at a time, and gives a number up at the first byte after which none of its range can come.
-- Definitions only. Assumes nothing.
use Rattle.std.specs.Prelude.{ℕ, zero, suc, ◌+◌, ◌*◌, ◌/◌, ◌%◌, ◌^◌, cond, ◌&&◌, ◌||◌, List, [], ◌∷◌, ◌++◌, ltb, eqb}
use Rattle.std.specs.Prelude.{drop, Option, Some, None}
use Rattle.meaning.specs.Reply.{Reply, broken, give}
use Rattle.histogram.specs.declared.number.Taken.{Taken}
use Rattle.histogram.specs.declared.number.Taken.TheVariants.{More, Whole, Wrong}
use Rattle.histogram.specs.declared.number.Found.{Found}

-- ---- writing

-- n in at most k groups more than one
unfoldable pub groups_of : ℕ → ℕ → List ℕ
groups_of zero n = n ∷ []
groups_of (suc k) n = let rest = groups_of k (n / 128) in cond (ltb n 128) (n ∷ []) ((128 + n % 128) ∷ rest)

-- n is more than enough
unfoldable pub number_bytes : ℕ → List ℕ
number_bytes n = groups_of n n

-- numbers one behind the other
unfoldable pub numbers_bytes : List ℕ → List ℕ
numbers_bytes [] = []
numbers_bytes (n ∷ ns) = number_bytes n ++ numbers_bytes ns

-- ---- reading a byte

-- the numbers that may stand at a place: none where least is above most
pub record Range : Type 0 where
  pub least : ℕ
  pub most : ℕ

abbrev pub between : ℕ → ℕ → Range
between least most = record { least = least; most = most }

-- a value with one group more
abbrev pub with_group : ℕ → ℕ → ℕ → ℕ
with_group value groups byte = value + byte % 128 * 128 ^ groups

-- What a byte makes of a number: its value so far, with another group to come; the number; or nothing that its range
-- allows.
-- A last byte is wrong where it is a zero behind other groups, since a shorter form says the same, or where the number
-- is outside its range.
-- Any other byte is wrong where the least number that can still come, whose next group is its last and a 1, is above
-- the range.
unfoldable pub take_byte_of : Range → ℕ → ℕ → ℕ → Taken
take_byte_of range value groups byte =
    let sum = with_group value groups byte in
    cond (ltb byte 128)
    (cond (eqb byte 0 && ltb 0 groups || ltb sum range.least || ltb range.most sum) Wrong (Whole sum))
    (cond (ltb range.most (sum + 128 ^ suc groups)) Wrong (More sum))

-- ---- reading a number

abbrev pub found_by : Taken → ℕ → ℕ → (ℕ → Reply Found) → Reply Found
found_by (More value) start next on = on value
found_by (Whole n) start next on = give (record { value = n; next = next })
found_by Wrong start next on = broken start

-- the number that starts at the place start, from the byte behind its first groups on
unfoldable pub number_from : Range → ℕ → ℕ → ℕ → List ℕ → Reply Found
number_from range start value groups [] = broken start
number_from range start value groups (byte ∷ rest) =
    found_by (take_byte_of range value groups byte) start (start + suc groups) (λ v. number_from range start v (suc groups) rest)

-- the number at a place of a file
unfoldable pub number_at_of : Range → List ℕ → ℕ → Reply Found
number_at_of range file start = number_from range start 0 0 (drop start file)

-- the place of a number at fault is where it starts
abbrev pub number_says : ℕ → Option Found → Reply Found
number_says start (Some found) = give found
number_says start None = broken start
