-- What a call that can refuse means: its answer, or the number that comes back instead. The refusals of a call are a
-- chain: the first test that holds wins.
-- Definitions only. Assumes nothing.
use Rattle.std.specs.Prelude.{ℕ, Bool, true, false, cond, List, [], ◌∷◌}

-- `broken` is number 3, with its place
pub data Reply (A : Type 0) : Type 0 where
  refuse : ℕ → Reply A
  broken : ℕ → Reply A
  give : A → Reply A

-- a test and the number that comes back where it holds
pub data Test : Type 0 where
  test : Bool → ℕ → Test

abbrev pub unless : {A : Type 0} → Bool → ℕ → Reply A → Reply A
unless true n r = refuse n
unless false n r = r

abbrev pub chain : {A : Type 0} → List Test → Reply A → Reply A
chain [] r = r
chain (test b n ∷ ts) r = unless b n (chain ts r)

-- the number of the first test that holds, and 0 where none does
abbrev pub first_of : List Test → ℕ
first_of [] = 0
first_of (test b n ∷ ts) = cond b n (first_of ts)
