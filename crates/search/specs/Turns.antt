-- A run of the search: the state that is kept of it, a turn, and a number of turns. A turn orders the vertices and tests
-- them; where they have not settled it makes an iteration. So each turn of a run that has not ended is one iteration, but
-- for the one that stops it. The caller's limit counts turns: one that is reached ends a call untested, and the next call
-- orders and tests first. Document 02, ask 6. Definitions only. Assumes nothing.
use Rattle.std.specs.Prelude.{ℕ, zero, suc, Bool, true, false, cond, ◌||◌, List, leb, Float}
use Rattle.search.specs.Order.{ordered}
use Rattle.search.specs.Rule.{stepped}
use Rattle.search.specs.Spread.{settled}
use Rattle.search.specs.Vertices.{Vertex}

-- the vertices, the iterations made, and whether the test stopped the run
pub record State : Type 0 where
  pub vertices : List Vertex
  pub iterations : ℕ
  pub stopped : Bool

-- the test stopped it, or it has come to the cap, which ends a run untested
abbrev pub ended : ℕ → State → Bool
ended cap s = s.stopped || leb cap s.iterations

module _ (cost : List Float → Float) where
  -- what a run that has not ended comes to
  unfoldable pub next_of : State → State
  next_of s =
      let vs = ordered s.vertices in
      cond (settled vs) (record { vertices = vs; iterations = s.iterations; stopped = true })
      (record { vertices = stepped cost vs; iterations = suc s.iterations; stopped = false })

  module _ (cap : ℕ) where
    unfoldable pub turn_of : State → State
    turn_of s = cond (ended cap s) s (next_of s)

    unfoldable pub turns_of : ℕ → State → State
    turns_of zero s = s
    turns_of (suc n) s = turns_of n (turn_of s)
