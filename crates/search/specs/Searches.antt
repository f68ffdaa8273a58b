-- Many runs, one behind the other in lent slices: for each its rows, its iterations and whether the test stopped it.
-- What stands there once each has gone on for a number of turns, over any cost of a point. Definitions only. Assumes
-- nothing.
use Rattle.std.specs.Prelude.{ℕ, false, List, length, get_or, Float}
use Rattle.meaning.specs.Flags.{is_set, byte_of}
use Rattle.meaning.specs.Lent.{on_give, laid}
use Rattle.meaning.specs.Over.{over}
use Rattle.meaning.specs.Reply.{Reply, give, chain}
use Rattle.models.specs.Prepared.{prepare_of}
use Rattle.search.specs.Lists.{list_of}
use Rattle.search.specs.Prices.{stands_from}
use Rattle.search.specs.Refusing.{search_tests}
use Rattle.search.specs.Turns.{State, turns_of}
use Rattle.search.specs.Vertices.{block_at, flat}
use Rattle.models.specs.declared.problems.Problem.{Problem}
use Rattle.search.specs.declared.refusing.Lent.{Lent}

-- `w` numbers a row and as many rows; `runs` runs
module _ (w : ℕ) (simplexes : List Float) (iterations : List ℕ) (stopped : List ℕ) (runs : ℕ) where
  -- run i as it stands
  unfoldable pub state_at : ℕ → State
  state_at i = record {
    vertices = block_at w simplexes runs i;
    iterations = get_or iterations i 0;
    stopped = is_set (get_or stopped i 0);
  }

  module _ (cost : List Float → Float) (cap limit : ℕ) where
    unfoldable pub after_at : ℕ → State
    after_at i = turns_of cost cap limit (state_at i)

    -- what stands in the slices afterwards; what lies behind the last run stays as it is
    unfoldable pub simplexes_after : List Float
    simplexes_after = over (flat (list_of (λ (i : ℕ). flat (after_at i).vertices) runs)) simplexes

    unfoldable pub iterations_after : List ℕ
    iterations_after = over (list_of (λ (i : ℕ). (after_at i).iterations) runs) iterations

    unfoldable pub stopped_after : List ℕ
    stopped_after = over (list_of (λ (i : ℕ). byte_of (after_at i).stopped) runs) stopped

-- ---- at our cost
abbrev pub lent_of : List Float → List ℕ → List ℕ → List Float → List Float → Lent
lent_of simplexes iterations stopped ready table = record {
  simplexes = length simplexes;
  iterations = length iterations;
  stopped = length stopped;
  ready = length ready;
  table = length table;
}

-- how many runs there are, or a number instead
unfoldable pub run_searches_of : List ℕ → Problem → ℕ → Lent → Reply ℕ
run_searches_of bins p runs lent = chain (search_tests bins p runs false lent) (give runs)

-- from where on the shelf's table stands as found: a refusal changes nothing
abbrev pub stood_from : Problem → Reply ℕ → ℕ
stood_from p r = on_give r (stands_from p) 0

-- what the slice for ln n and lgamma(n + 1) holds
abbrev pub ready_after : Problem → Reply ℕ → List Float → List Float
ready_after p r ready = on_give r (laid (prepare_of p.window_end (length ready)) ready) ready
