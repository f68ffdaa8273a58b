-- The cost that a run reports is the cost of the list that it reports, wherever each vertex of its block costs what its
-- coordinates do. Assumes nothing.
use Prim.Native.Nat.{ℕ, ◌+◌, ◌-◌, ◌*◌, ◌≤◌, ◌<◌}
use mathlib.Core.Path.{◌≡◌, sym, ap, ◌∙◌}
use mathlib.Core.List.{List}
use native.Mathlib.Omega.{arith}
use lib.Ieee.{Float}
use lib.ListN.{length, take, drop}
use Rattle.models.specs.Families.{list_length_of}
use Rattle.models.specs.declared.families.ErrorModel.{ErrorModel}
use Rattle.models.specs.declared.families.GenomeModel.{GenomeModel}
use Rattle.search.specs.Claims.{Priced}
use Rattle.search.specs.Prices.{cap_of}
use Rattle.search.specs.Reporting.{least_place, found_of, found_at, reported_at}
use Rattle.search.specs.Vertices.{Vertex, vertex_at, rows_in, block_at}
use Rattle.search.specs.declared.reporting.Found.{Found}
use Rattle.search.proofs.BestLists.{row-point}
use Rattle.search.proofs.Reported.{least-in}
use Rattle.search.proofs.RowLaws.{rows-length}

module _ (cost : List Float → Float) (runs : ℕ) (simplexes : List Float) (iterations stopped : List ℕ) (i : ℕ)
    (here : i < runs) where
  -- ---- w numbers a row
  module _ (w cap : ℕ) (some : 0 < w) (fits : runs * (w * w) ≤ length simplexes) where
    abbrev block : List Vertex
    block = block_at w simplexes runs i

    abbrev found : Found
    found = found_at w cap runs simplexes iterations stopped i

    pub cost-of-list : Priced cost block → found.cost ≡ cost (take (w - 1) (drop found.place simplexes))
    unfolding found_of
    cost-of-list p =
        let l : least_place block < w = least-in w (vertex_at (rows_in (w * w) runs simplexes) i) some in
        let n : length block ≡ w = rows-length w w (vertex_at (rows_in (w * w) runs simplexes) i) in
        p (least_place block) (omega arith) ∙ ap cost (sym (row-point w runs simplexes i (least_place block) here l fits))

  -- ---- the run of two models that is reported
  module _ (error : ErrorModel) (genome : GenomeModel) where
    abbrev size : ℕ
    size = list_length_of error genome

    abbrev reported : Found
    reported = reported_at error genome runs simplexes iterations stopped i

    pub reported-cost : runs * ((size + 1) * (size + 1)) ≤ length simplexes
        → Priced cost (block_at (size + 1) simplexes runs i)
        → reported.cost ≡ cost (take size (drop reported.place simplexes))
    reported-cost fits p =
        let e : size + 1 - 1 ≡ size = omega arith in
        cost-of-list (size + 1) (cap_of genome) (omega arith) fits p
        ∙ ap (λ (n : ℕ). cost (take n (drop reported.place simplexes))) e
