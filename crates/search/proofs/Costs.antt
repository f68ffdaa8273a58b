-- Laws of the loops over the costs of a simplex: what a loop adds at each vertex, and where a cost stands. Assumes nothing.
use Prim.Native.Nat.{ℕ, ◌*◌, ◌<◌, zero-le}
use mathlib.Core.Path.{◌≡◌, sym, ap, ◌∙◌}
use mathlib.Core.Bool.{Bool}
use mathlib.Core.List.{List}
use native.Mathlib.Nat.{le_of_eq, lt_of_le_of_lt}
use lib.ListN.{length, get_or}
use lib.Ieee.{Float, nan, lt}
use Rattle.meaning.specs.Fold.{fold}
use Rattle.routines.specs.Ops.{◌⊕◌, ◌⊘◌, of_count}
use Rattle.search.specs.Spread.{cost_at, mean_of, square_at, deviation_of}
use Rattle.search.specs.Vertices.{Vertex, rows_in}
use Rattle.search.proofs.RowLaws.{cost-at}

-- ---- what is added at each vertex
module _ (vs : List Vertex) where
  abbrev pub add_cost : ℕ → Float → Float
  add_cost i sum = sum ⊕ cost_at vs i

  abbrev pub add_square : Float → ℕ → Float → Float
  add_square mean i sum = sum ⊕ square_at vs mean i

  -- ---- by the number of rows
  module _ (w : ℕ) (long : length vs ≡ w) where
    pub mean-is : mean_of vs ≡ fold add_cost 1 w (cost_at vs 0) ⊘ of_count w
    unfolding mean_of
    mean-is = ap (λ (n : ℕ). fold add_cost 1 n (cost_at vs 0) ⊘ of_count n) long

    pub deviation-is : (mean : Float) → mean ≡ mean_of vs → deviation_of vs ≡ fold (add_square mean) 1 w (square_at vs mean 0) ⊘ of_count w
    unfolding deviation_of
    deviation-is mean e = ap (λ (m : Float). squares m (length vs)) (sym e) ∙ ap (squares mean) long
      where
        squares : Float → ℕ → Float
        squares m n = fold (add_square m) 1 n (square_at vs m 0) ⊘ of_count n

-- ---- where a cost stands
pub cost-in : (w : ℕ) (xs : List Float) → length xs ≡ w * w → (i : ℕ) → i < w → cost_at (rows_in w w xs) i ≡ get_or xs (i * w) nan
cost-in w xs fits i h = cost-at w w xs i nan h (le_of_eq (sym fits)) (lt_of_le_of_lt zero-le h)

-- one cost below another
pub less-of : (a b x y : Float) (t : Bool) → a ≡ x → b ≡ y → lt a b ≡ t → lt x y ≡ t
less-of a b x y t ea eb e = ap (λ (z : Float). lt z y) (sym ea) ∙ ap (lt a) (sym eb) ∙ e
