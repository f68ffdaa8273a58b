-- When a run stops: the mean squared deviation of the costs, in the order of the vertices. Both sums begin at the first
-- vertex, and both are divided by the number of vertices. Document 02, ask 6. Definitions only. Assumes nothing.
use Rattle.std.specs.Prelude.{ℕ, Bool, List, length, Float}
use Rattle.std.specs.Float.{binary64}
use Rattle.std.specs.Float.Ieee.{of_bits, lt}
use Rattle.meaning.specs.Fold.{fold}
use Rattle.routines.specs.Ops.{◌⊕◌, ◌⊖◌, ◌⊗◌, ◌⊘◌, of_count}
use Rattle.search.specs.Vertices.{Vertex, vertex_at, cost_in}

-- 1e-8
abbrev pub tolerance : Float
tolerance = of_bits binary64 0x3e45798ee2308c3a

module _ (vs : List Vertex) where
  abbrev pub cost_at : ℕ → Float
  cost_at i = cost_in (vertex_at vs i)

  unfoldable pub mean_of : Float
  mean_of = fold (λ (i : ℕ) (sum : Float). sum ⊕ cost_at i) 1 (length vs) (cost_at 0) ⊘ of_count (length vs)

  unfoldable pub square_at : Float → ℕ → Float
  square_at mean i = (cost_at i ⊖ mean) ⊗ (cost_at i ⊖ mean)

  unfoldable pub deviation_of : Float
  deviation_of =
      fold (λ (i : ℕ) (sum : Float). sum ⊕ square_at mean_of i) 1 (length vs) (square_at mean_of 0) ⊘ of_count (length vs)

  -- an infinite cost makes it a NaN, which is below nothing
  unfoldable pub settled : Bool
  settled = lt deviation_of tolerance
