-- What is so of every run from a start at our cost, with no premise but the start's own: each vertex costs what `cost`
-- answers for its coordinates, and the least cost never rises. Assumes nothing.
use Prim.Native.Nat.{ℕ, ◌+◌, ◌<◌}
use mathlib.Core.Path.{◌≡◌, refl, sym, ap, ◌∙◌}
use mathlib.Core.Bool.{false}
use mathlib.Core.List.{List}
use native.Mathlib.Omega.{arith}
use lib.ListN.{length}
use lib.Ieee.{Float, lt, is_nan}
use Rattle.meaning.specs.Reply.{Reply, refuse, broken, give}
use Rattle.models.specs.Costs.{cost_of}
use Rattle.models.proofs.Infinite.{cost-never-nan}
use Rattle.search.specs.Claims.{Priced, least_of}
use Rattle.search.specs.Firsts.{first_point, first_simplex}
use Rattle.search.specs.Ordered.{Costed}
use Rattle.search.specs.Prices.{price_said, price_of, cap_of}
use Rattle.search.specs.Rule.{vertex_of}
use Rattle.search.specs.Turns.{State, turns_of}
use Rattle.search.specs.Vertices.{Vertex, vertex_at, cost_in, point_in}
use Rattle.models.specs.declared.problems.Problem.{Problem}
use Rattle.search.proofs.FirstRows.{firsts-length, firsts_at}
use Rattle.search.proofs.Improves.{never-rises}
use Rattle.search.proofs.Parts.{in_parts}
use Rattle.search.proofs.Simplexes.{priced, same_number}

module _ (bins : List ℕ) (p : Problem) (room : ℕ) where
  abbrev price : List Float → Float
  price list = price_of bins p room list

  -- the cost is never a NaN
  pub price-number : (list : List Float) → is_nan (price list) ≡ false
  unfolding price_of is_nan
  price-number list = by_answer (cost_of bins p.scale p.window_end p.peak p.error p.genome list room) refl
    where
      by_answer : (r : Reply Float) → cost_of bins p.scale p.window_end p.peak p.error p.genome list room ≡ r
          → is_nan (price_said r) ≡ false
      by_answer (refuse n) e = refl
      by_answer (broken place) e = refl
      by_answer (give v) e = cost-never-nan bins p.scale p.window_end p.peak p.error p.genome list room v e

  module _ (start : List Float) (some : 0 < length start) where
    abbrev first : List Vertex
    first = first_simplex price start

    -- the run after n turns
    abbrev after : ℕ → State
    after n = turns_of price (cap_of p.genome) n (record { vertices = first; iterations = 0; stopped = false })

    many : length first ≡ length start + 1
    many = firsts-length price start

    first-priced : Priced price first
    first-priced i h =
        let e : vertex_at first i ≡ vertex_of price (first_point start i) = firsts_at price start i (omega (arith, many)) in
        ap cost_in e ∙ sym (ap (λ (v : Vertex). price (point_in v)) e)

    -- ---- the cost that is reported is that of the list that is reported
    pub search-priced : (n : ℕ) → Priced price (after n).vertices
    search-priced n = priced price (cap_of p.genome) n _ (omega (arith, many)) first-priced

    costed : (n : ℕ) → Costed (after n).vertices
    costed n i h = ap is_nan (search-priced n i h) ∙ price-number (point_in (vertex_at (after n).vertices i))

    -- ---- after m turns more the least cost is not above what it was
    pub search-never-rises : (n m : ℕ) → lt (least_of (after n).vertices) (least_of (after (n + m)).vertices) ≡ false
    search-never-rises n m =
        let l = same_number price (cap_of p.genome) n (record { vertices = first; iterations = 0; stopped = false }) (omega (arith, many)) in
        ap (λ (s : State). lt (least_of (after n).vertices) (least_of s.vertices))
        (in_parts price (cap_of p.genome) n m (record { vertices = first; iterations = 0; stopped = false }))
        ∙ never-rises price price-number (cap_of p.genome) m (after n) (omega (arith, l, many)) (costed n)
