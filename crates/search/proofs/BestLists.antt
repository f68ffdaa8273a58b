-- The list of a run's best vertex lies whole in the slice of simplexes, from the place on that is reported. Assumes
-- nothing.
use Prim.Native.Nat.{ℕ, zero, suc, ◌+◌, ◌-◌, ◌*◌, ◌≤◌, ◌<◌}
use mathlib.Core.Path.{◌≡◌, sym, ap, ◌∙◌}
use mathlib.Core.List.{List, [], ◌∷◌}
use native.Mathlib.Omega.{arith}
use lib.Ieee.{Float}
use lib.ListN.{length, take, drop}
use lib.Seq.{take-nil, take-take, drop-drop}
use Rattle.models.specs.Families.{list_length_of}
use Rattle.models.specs.declared.families.ErrorModel.{ErrorModel}
use Rattle.models.specs.declared.families.GenomeModel.{GenomeModel}
use Rattle.search.specs.Reporting.{least_place, found_of, reported_at}
use Rattle.search.specs.Vertices.{Vertex, vertex_at, point_in, rows_in, block_at}
use Rattle.search.proofs.Reported.{least-in}
use Rattle.search.proofs.RowLaws.{row_fits, row_at, row-length, point_at}

drop-take : (n m : ℕ) (l : List Float) → drop n (take m l) ≡ take (m - n) (drop n l)
drop-take zero m l = let e : m ≡ m - 0 = omega arith in ap (λ (k : ℕ). take k l) e
drop-take (suc n) zero l = let e : 0 ≡ 0 - suc n = omega arith in ap (λ (k : ℕ). take k (drop (suc n) l)) e
drop-take (suc n) (suc m) [] = sym (take-nil (suc m - suc n))
drop-take (suc n) (suc m) (x ∷ l) =
    let e : m - n ≡ suc m - suc n = omega arith in drop-take n m l ∙ ap (λ (k : ℕ). take k (drop n l)) e

-- row k of simplex i
module _ (w runs : ℕ) (simplexes : List Float) (i k : ℕ) (h : i < runs) (l : k < w) (f : runs * (w * w) ≤ length simplexes) where
  pub row-point : take (w - 1) (drop (i * (w * w) + k * w + 1) simplexes) ≡ point_in (vertex_at (block_at w simplexes runs i) k)
  row-point =
      sym (point_at w w block k l whole some
      ∙ ap (λ (ys : List Float). take (w - 1) (drop (k * w + 1) ys)) (row_at (w * w) runs simplexes i h)
      ∙ ap (take (w - 1)) (drop-take (k * w + 1) (w * w) (drop (i * (w * w)) simplexes))
      ∙ take-take (w - 1) (w * w - (k * w + 1)) _ (omega (arith, row_fits k w w l))
      ∙ ap (take (w - 1)) (drop-drop (k * w + 1) (i * (w * w)) simplexes)
      ∙ ap (λ (n : ℕ). take (w - 1) (drop n simplexes)) place)
    where
      block : List Float
      block = vertex_at (rows_in (w * w) runs simplexes) i

      some : 0 < w
      some = omega arith

      whole : w * w ≤ length block
      whole = let e = row-length (w * w) runs simplexes i h f in omega arith

      place : i * (w * w) + (k * w + 1) ≡ i * (w * w) + k * w + 1
      place = omega arith

module _ (error : ErrorModel) (genome : GenomeModel) (runs : ℕ) (simplexes : List Float)
    (iterations stopped : List ℕ) (i : ℕ) where
  abbrev w : ℕ
  w = list_length_of error genome + 1

  abbrev block : List Vertex
  block = block_at w simplexes runs i

  abbrev place : ℕ
  place = (reported_at error genome runs simplexes iterations stopped i).place

  least-row : least_place block < w
  least-row = least-in w (vertex_at (rows_in (w * w) runs simplexes) i) (omega arith)

  -- the list is that vertex's point
  pub best-list : i < runs → runs * (w * w) ≤ length simplexes
      → take (list_length_of error genome) (drop place simplexes) ≡ point_in (vertex_at block (least_place block))
  unfolding found_of
  best-list h f =
      let e : list_length_of error genome ≡ w - 1 = omega arith in
      ap (λ (n : ℕ). take n (drop (i * (w * w) + least_place block * w + 1) simplexes)) e
      ∙ row-point w runs simplexes i (least_place block) h least-row f

  pub best-inside : i < runs → runs * (w * w) ≤ length simplexes → place + list_length_of error genome ≤ length simplexes
  unfolding found_of
  best-inside h f =
      let row : least_place block * w + w ≤ w * w = row_fits (least_place block) w w least-row in
      let square : i * (w * w) + w * w ≤ runs * (w * w) = row_fits i runs (w * w) h in
      ends (i * (w * w)) (least_place block * w) (w * w) (runs * (w * w)) row square f
    where
      ends : (a b s n : ℕ) → b + w ≤ s → a + s ≤ n → n ≤ length simplexes → a + b + 1 + list_length_of error genome ≤ length simplexes
      ends a b s n p q r = omega arith
