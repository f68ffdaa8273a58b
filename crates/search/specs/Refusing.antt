-- What the calls of the search that take bins refuse, in document 01's order: what `cost` refuses where it takes bins, the number of
-- runs as 2, starts that are no whole number of lists as 7, and a lent slice that is too short as 10. The limit of turns
-- is never refused. Definitions only. Assumes nothing.
use Rattle.std.specs.Prelude.{ℕ, ◌*◌, Bool, List, [], ◌∷◌, length}
use Rattle.meaning.specs.Numbers as number
use Rattle.meaning.specs.Reply.{Test, test}
use Rattle.meaning.specs.Rows.{in_order, below_two, above_most, too_short}
use Rattle.models.specs.Prepared.{ready_demand}
use Rattle.models.specs.Refusals.{spectrum_tests, short_table}
use Rattle.search.specs.Prices.{width_of}
use Rattle.models.specs.declared.problems.Problem.{Problem}
use Rattle.search.specs.declared.refusing.Lent.{Lent}

-- 7
abbrev pub wrong_starts : Bool → List Test
wrong_starts wrong = test wrong number.wrong_length ∷ []

-- 10: the slices that every run has a part in
unfoldable pub short_runs : Problem → ℕ → Lent → List Test
short_runs p runs lent =
    in_order
    (too_short lent.simplexes (runs * (width_of p * width_of p))
    ∷ too_short lent.iterations runs
    ∷ too_short lent.stopped runs
    ∷ [])

unfoldable pub search_tests : List ℕ → Problem → ℕ → Bool → Lent → List Test
search_tests bins p runs wrong lent =
    in_order
    (below_two (p.peak ∷ length bins ∷ [])
    ∷ above_most (length bins ∷ p.peak ∷ p.window_end ∷ runs ∷ [])
    ∷ spectrum_tests bins p.scale p.window_end
    ∷ wrong_starts wrong
    ∷ short_table p.genome p.window_end lent.table
    ∷ too_short lent.ready (ready_demand p.window_end)
    ∷ short_runs p runs lent
    ∷ [])
