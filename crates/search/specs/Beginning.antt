-- The runs of many starts, as they begin: each run's rows are the first simplex of its start, it has made no iteration
-- and nothing has stopped it. Over any cost of a point. Definitions only. Assumes nothing.
use Rattle.std.specs.Prelude.{ℕ, ◌/◌, ◌%◌, Bool, not, List, eqb, length, Float}
use Rattle.meaning.specs.Over.{over}
use Rattle.meaning.specs.Reply.{Reply, give, chain}
use Rattle.models.specs.Families.{list_length_of}
use Rattle.search.specs.Firsts.{first_simplex}
use Rattle.search.specs.Lists.{list_of}
use Rattle.search.specs.Refusing.{search_tests}
use Rattle.search.specs.Vertices.{row_at, rows_in, flat}
use Rattle.models.specs.declared.problems.Problem.{Problem}
use Rattle.search.specs.declared.refusing.Lent.{Lent}

-- `d` numbers a start; `runs` starts, one behind the other
abbrev pub start_at : ℕ → List Float → ℕ → ℕ → List Float
start_at d starts runs i = row_at (rows_in d runs starts) i

-- ---- what stands in the slices; what lies behind the last run stays as it is
unfoldable pub simplexes_begun : (List Float → Float) → ℕ → List Float → ℕ → List Float → List Float
simplexes_begun cost d starts runs simplexes =
    over (flat (list_of (λ (i : ℕ). flat (first_simplex cost (start_at d starts runs i))) runs)) simplexes

unfoldable pub iterations_begun : ℕ → List ℕ → List ℕ
iterations_begun runs iterations = over (list_of (λ (i : ℕ). 0) runs) iterations

unfoldable pub stopped_begun : ℕ → List ℕ → List ℕ
stopped_begun runs stopped = over (list_of (λ (i : ℕ). 0) runs) stopped

-- ---- at our cost
abbrev pub size_of : Problem → ℕ
size_of p = list_length_of p.error p.genome

-- how many starts there are
abbrev pub runs_in : Problem → List Float → ℕ
runs_in p starts = length starts / size_of p

-- they are no whole number of lists; none at all is no fault, and makes no run
abbrev pub ragged : Problem → List Float → Bool
ragged p starts = not (eqb (length starts % size_of p) 0)

-- how many runs there are, or a number instead
unfoldable pub begin_searches_of : List ℕ → Problem → List Float → Lent → Reply ℕ
begin_searches_of bins p starts lent =
    chain (search_tests bins p (runs_in p starts) (ragged p starts) lent) (give (runs_in p starts))
