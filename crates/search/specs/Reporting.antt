-- What a run has come to, as a run of the run table, but for its iterations, which are a column of the search's own, and
-- its length, which is the families': its cheapest vertex, the earlier on ties, with where its list lies in the slice of
-- simplexes. It has converged exactly where the test stopped it at a cost that is finite and above 0; it hit its cap
-- where its iterations have come to the cap and the test has not stopped it. Definitions only. Assumes nothing.
use Rattle.std.specs.Prelude.{ℕ, ◌+◌, ◌*◌, Bool, not, cond, ◌&&◌, List, [], ◌∷◌, leb, ltb, length, get_or, Float}
use Rattle.std.specs.Float.Ieee.{lt}
use Rattle.std.specs.Float.Ieee.Scale.{finite}
use Rattle.meaning.specs.Numbers as number
use Rattle.meaning.specs.Flags.{is_set}
use Rattle.meaning.specs.Fold.{fold}
use Rattle.meaning.specs.Reply.{Reply, give, Test, test, chain}
use Rattle.meaning.specs.Rows.{in_order, above_most, too_short}
use Rattle.models.specs.Families.{list_length_of}
use Rattle.models.specs.declared.families.ErrorModel.{ErrorModel}
use Rattle.models.specs.declared.families.GenomeModel.{GenomeModel}
use Rattle.routines.specs.Constants as float
use Rattle.search.specs.Prices.{cap_of}
use Rattle.search.specs.Vertices.{Vertex, vertex_at, cost_in, block_at}
use Rattle.search.specs.declared.reporting.Columns.{Columns}
use Rattle.search.specs.declared.reporting.Found.{Found}

-- the place of the cheapest
unfoldable pub least_place : List Vertex → ℕ
least_place vs =
    fold (λ (i least : ℕ). cond (lt (cost_in (vertex_at vs i)) (cost_in (vertex_at vs least))) i least) 1 (length vs) 0

abbrev pub least_cost : List Vertex → Float
least_cost vs = cost_in (vertex_at vs (least_place vs))

unfoldable pub converged_at : Bool → Float → Bool
converged_at stopped cost = stopped && finite cost && lt float.zero cost

unfoldable pub capped_at : ℕ → ℕ → Bool → Bool
capped_at cap iterations stopped = not stopped && leb cap iterations

-- out of vertices of w numbers that begin at a place of the slice
unfoldable pub found_of : ℕ → ℕ → List Vertex → ℕ → ℕ → Bool → Found
found_of w cap vs from iterations stopped = record {
  converged = converged_at stopped (least_cost vs);
  cost = least_cost vs;
  place = from + least_place vs * w + 1;
  hit_cap = capped_at cap iterations stopped;
}

-- ---- run i of those in the slices: w numbers a row, and w rows
abbrev pub found_at : ℕ → ℕ → ℕ → List Float → List ℕ → List ℕ → ℕ → Found
found_at w cap runs simplexes iterations stopped i =
    found_of w cap (block_at w simplexes runs i) (i * (w * w)) (get_or iterations i 0) (is_set (get_or stopped i 0))

abbrev pub reported_at : ErrorModel → GenomeModel → ℕ → List Float → List ℕ → List ℕ → ℕ → Found
reported_at error genome = found_at (list_length_of error genome + 1) (cap_of genome)

-- ---- what is refused: more than 65,535 runs as 2, and a slice that is too short as 10
abbrev pub short_ones : List ℕ → ℕ → List Test
short_ones [] need = []
short_ones (room ∷ rooms) need = test (ltb room need) number.too_short ∷ short_ones rooms need

unfoldable pub report_tests : ℕ → ℕ → Columns → List Test
report_tests w runs c =
    in_order
    (above_most (runs ∷ [])
    ∷ too_short c.simplexes (runs * (w * w))
    ∷ short_ones
    (c.iterations ∷ c.stopped ∷ c.converged ∷ c.costs ∷ c.places ∷ c.lengths ∷ c.caps ∷ []) runs
    ∷ [])

-- the lengths of the slices
abbrev pub columns_of : List Float → List ℕ → List ℕ → List ℕ → List Float → List ℕ → List ℕ → List ℕ → Columns
columns_of simplexes iterations stopped converged costs places lengths caps = record {
  simplexes = length simplexes;
  iterations = length iterations;
  stopped = length stopped;
  converged = length converged;
  costs = length costs;
  places = length places;
  lengths = length lengths;
  caps = length caps;
}

-- the number of runs written
unfoldable pub report_of : ErrorModel → GenomeModel → ℕ → Columns → Reply ℕ
report_of error genome runs c = chain (report_tests (list_length_of error genome + 1) runs c) (give runs)
