-- The centroid of a simplex: the points of the rows as parts of the slice, the loop that adds them, and its end. Assumes
-- nothing.
use Prim.Native.Nat.{ℕ, ◌+◌, ◌-◌, ◌*◌, ◌≤◌, ◌<◌}
use mathlib.Core.Path.{◌≡◌, sym, ap, ◌∙◌}
use mathlib.Core.List.{List, map}
use native.Mathlib.Omega.{arith}
use lib.Ieee.{Float}
use lib.ListN.{length, take, drop}
use borrow.Rule.Slice.PartMut.{mid_of}
use Rattle.meaning.specs.Fold.{fold}
use Rattle.meaning.proofs.Folds.{fold-reach}
use Rattle.meaning.proofs.Loops.{Folded, ends}
use Rattle.routines.specs.Ops.{◌⊘◌, of_count}
use Rattle.search.specs.Points.{moved, centroid_of}
use Rattle.search.specs.Vertices.{Vertex, vertex_at, point_in, rows_in}
use Rattle.search.specs.declared.points.Move.TheVariants.{Sum}
use Rattle.search.proofs.RowLaws.{point_at}

-- a turn of the loop
abbrev pub added : List Vertex → ℕ → List Float → List Float
added vs = λ (i : ℕ) (sum : List Float). moved Sum sum (point_in (vertex_at vs i))

-- The loop runs from 1 to n - 1, and from 1 to 1 where n is 0.
pub sum-ends : (f : ℕ → List Float → List Float) (z : List Float) (n : ℕ) {x : List Float} {i : ℕ} → Folded f z 1 (1 + (n - 1)) x i → n ≤ i → x ≡ fold f 1 n z
sum-ends f z n {i = i} s h =
    let u : 1 ≤ i = s.from in
    ends f z 1 (1 + (n - 1)) s (omega arith) ∙ fold-reach f 1 n z

pub point-lent : (w : ℕ) (xs : List Float) → length xs ≡ w * w → (i : ℕ) → i < w → mid_of (i * w + 1) (i * w + 1 + (w - 1) - (i * w + 1)) xs ≡ point_in (vertex_at (rows_in w w xs) i)
point-lent w xs f i h =
    let e : i * w + 1 + (w - 1) - (i * w + 1) ≡ w - 1 = omega arith in
    ap (λ (k : ℕ). take k (drop (i * w + 1) xs)) e ∙ sym (point_at w w xs i h (omega arith) (omega arith))

pub centroid-is : (vs : List Vertex) (w : ℕ) → length vs ≡ w → (total : List Float) → total ≡ fold (added vs) 1 (w - 1) (point_in (vertex_at vs 0)) → map (λ (x : Float). x ⊘ of_count (w - 1)) total ≡ centroid_of vs
unfolding centroid_of
centroid-is vs w long total e =
    ap (map (λ (x : Float). x ⊘ of_count (w - 1))) e
    ∙ ap (λ (n : ℕ). map (λ (x : Float). x ⊘ of_count (n - 1)) (fold (added vs) 1 (n - 1) (point_in (vertex_at vs 0))))
    (sym long)
