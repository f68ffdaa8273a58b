-- A simplex in a lent slice: how many vertices it has, what stays as it is over several changes, and what the slice holds
-- once it is no longer lent. Assumes nothing.
use Prim.Native.Nat.{ℕ}
use mathlib.Core.Path.{◌≡◌, refl, sym, ap, ◌∙◌}
use mathlib.Core.List.{List}
use lib.Ieee.{Float}
use lib.ListN.{length}
use Rattle.search.specs.Progress.{state_of}
use Rattle.search.specs.Simplex.{vertices_in, state_in, IsSame}
use Rattle.search.specs.Turns.{State}
use Rattle.search.specs.Vertices.{Vertex, rows_in}
use Rattle.search.specs.declared.rows.Simplex.{Simplex}
use Rattle.search.specs.declared.turns.Progress.{Progress}
use Rattle.search.proofs.RowLaws.{rows-length}

pub vertices-length : (s : Simplex) → length (vertices_in s) ≡ s.w
unfolding vertices_in
vertices-length s = rows-length s.w s.w s.rows.now

pub none-changed : {s : Simplex} → IsSame s s
none-changed = record { wide = refl; lent = refl }

pub same-then : {s t u : Simplex} → IsSame s t → IsSame t u → IsSame s u
same-then a b = record { wide = b.wide ∙ a.wide; lent = b.lent ∙ a.lent }

-- ---- the slice once it is no longer lent
module _ {s t : Simplex} (same : IsSame s t) where
  rows-are : (last : List Float) → last ≡ t.rows.now → rows_in s.w s.w last ≡ vertices_in t
  unfolding vertices_in
  rows-are last e = ap (rows_in s.w s.w) e ∙ ap (λ (w : ℕ). rows_in w w t.rows.now) (sym same.wide)

  pub rows-last : (vs : List Vertex) → vertices_in t ≡ vs → (last : List Float) (name : ℕ) → name ≡ s.rows.ghost_name
      → (name ≡ t.rows.ghost_name → last ≡ t.rows.now) → rows_in s.w s.w last ≡ vs
  rows-last vs e last name en back = rows-are last (back (en ∙ sym same.lent)) ∙ e

  pub state-last : (p : Progress) (x : State) → state_in t p ≡ x → (last : List Float) (name : ℕ) → name ≡ s.rows.ghost_name
      → (name ≡ t.rows.ghost_name → last ≡ t.rows.now) → state_of s.w last p ≡ x
  state-last p x e last name en back =
      ap (λ (vs : List Vertex). record { vertices = vs; iterations = p.iterations; stopped = p.stopped })
      (rows-are last (back (en ∙ sym same.lent)))
      ∙ e
