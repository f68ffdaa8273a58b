-- The first simplex of a start: how many vertices it has, how many numbers each has, and the loop that writes them.
-- Assumes nothing.
use Prim.Native.Nat.{ℕ, zero, suc, ◌+◌, ◌-◌, ◌≤◌, ◌<◌}
use mathlib.Core.Path.{◌≡◌, refl, sym, ap, ◌∙◌}
use mathlib.Core.List.{List, [], ◌∷◌}
use native.Mathlib.Nat.{not-suc-le-zero, suc-ne-zero}
use native.Mathlib.Numerals.{add-one}
use native.Mathlib.Omega.{arith}
use lib.ListN.{length, get_or, set, length-set}
use lib.Ieee.{Float, nan}
use Rattle.routines.specs.Constants.{half}
use Rattle.routines.specs.Ops.{◌⊕◌}
use Rattle.search.specs.Firsts.{first_point, first_simplex}
use Rattle.search.specs.Rule.{vertex_of}
use Rattle.search.specs.Vertices.{Vertex, vertex_at}
use Rattle.search.proofs.Elements.{Passed, goes_on, ends}
use Rattle.search.proofs.Fronts.{list_length, list_at}

-- ---- a point: the start as it is, or with one coordinate changed
module _ (start : List Float) where
  pub first-same : (i : ℕ) → i ≡ 0 → start ≡ first_point start i
  unfolding first_point
  first-same zero e = refl
  first-same (suc j) e = absurd (suc-ne-zero j e)

  pub first-other : (i : ℕ) → 0 < i → set start (i - 1) (get_or start (i - 1) nan ⊕ half) ≡ first_point start i
  unfolding first_point
  first-other zero h = absurd (not-suc-le-zero h)
  first-other (suc j) h =
      let e : suc j - 1 ≡ j = omega arith in ap (λ (k : ℕ). set start k (get_or start k nan ⊕ half)) e

first-length : (start : List Float) (i : ℕ) → length (first_point start i) ≡ length start
unfolding first_point
first-length start zero = refl
first-length start (suc j) = length-set start j _

module _ (cost : List Float → Float) (start : List Float) where
  abbrev first_vertex : ℕ → Vertex
  first_vertex i = vertex_of cost (first_point start i)

  pub firsts-length : length (first_simplex cost start) ≡ length start + 1
  unfolding first_simplex
  firsts-length = list_length first_vertex (length start + 1)

  pub firsts_at : (i : ℕ) → i < length start + 1 → vertex_at (first_simplex cost start) i ≡ first_vertex i
  unfolding first_simplex
  firsts_at i h = list_at first_vertex (length start + 1) i [] h

  pub firsts-sized : (i : ℕ) → i < length (first_simplex cost start) → length (vertex_at (first_simplex cost start) i) ≡ length start + 1
  firsts-sized i h =
      ap length (firsts_at i (rw firsts-length at h)) ∙ ap suc (first-length start i) ∙ sym (add-one (length start))

  -- ---- the loop that writes them into rows: whatever stood there goes
  abbrev pub first_at : ℕ → Vertex → Vertex
  first_at i v = first_vertex i

  module _ {found us : List Vertex} {i : ℕ} (s : Passed first_at [] found us i) where
    -- q is the point at i, and c what it costs
    pub first-goes-on : i < length found → (q : List Float) (c : Float) → q ≡ first_point start i → c ≡ cost q → Passed first_at [] found (set us i (c ∷ q)) (i + 1)
    first-goes-on h q c eq ec =
        goes_on first_at [] found s (c ∷ q) h (ap (λ (x : Float). x ∷ q) ec ∙ ap (vertex_of cost) eq)

    pub first_ends : length found ≡ length start + 1 → length found ≤ i → us ≡ first_simplex cost start
    first_ends l h =
        ends first_at [] found s (first_simplex cost start) h (firsts-length ∙ sym l)
        (λ (k : ℕ) (b : k < length found). firsts_at k (rw l at b))
