-- The loop that shrinks a simplex: what becomes of each row, a turn of the loop, and its end. Assumes nothing.
use Prim.Native.Nat.{ℕ, zero, suc, ◌+◌, ◌≤◌, ◌<◌}
use mathlib.Core.Path.{◌≡◌, refl, ap, ◌∙◌}
use mathlib.Core.List.{List, [], ◌∷◌}
use native.Mathlib.Nat.{not-suc-le-zero, le_of_suc-le-suc}
use lib.ListN.{length, set, length-map}
use lib.Ieee.{Float}
use Rattle.search.specs.Points.{moved}
use Rattle.search.specs.Rule.{best, vertex_of, shrunk}
use Rattle.search.specs.Vertices.{Vertex, vertex_at, point_in}
use Rattle.search.specs.declared.points.Move.TheVariants.{Half}
use Rattle.search.proofs.Elements.{Passed, goes_on, ends, map_at}

module _ (cost : List Float → Float) (vs : List Vertex) where
  -- half the way to the best
  abbrev halved : Vertex → Vertex
  halved v = vertex_of cost (moved Half (point_in v) (point_in (best cost vs)))

  -- the best stays
  abbrev pub shrunk_at : ℕ → Vertex → Vertex
  shrunk_at zero v = v
  shrunk_at (suc i) v = halved v

  pub shrink-begins : 0 < length vs → Passed shrunk_at [] vs vs 1
  shrink-begins h = record { upto = h; long = refl; done = first; left = λ (i : ℕ) (k : 1 ≤ i). refl }
    where
      first : (i : ℕ) → i < 1 → vertex_at vs i ≡ shrunk_at i (vertex_at vs i)
      first zero k = refl
      first (suc i) k = absurd (not-suc-le-zero (le_of_suc-le-suc k))

  -- b holds the best one's point, y that of the row at i, q the point tried, and c what it costs
  module _ {us : List Vertex} {i : ℕ} (s : Passed shrunk_at [] vs us i) (some : 0 < i) (more : i < length vs)
      (b y q : List Float) (c : Float) (eb : b ≡ point_in (best cost vs)) (ey : y ≡ point_in (vertex_at us i))
      (eq : q ≡ moved Half y b) (ec : c ≡ cost (moved Half y b)) where
    behind : (i : ℕ) → 0 < i → (v : Vertex) → halved v ≡ shrunk_at i v
    behind zero k v = absurd (not-suc-le-zero k)
    behind (suc i) k v = refl

    pub shrink-goes-on : Passed shrunk_at [] vs (set us i (c ∷ q)) (i + 1)
    shrink-goes-on =
        goes_on shrunk_at [] vs s (c ∷ q) more
        (ap (λ (x : List Float). c ∷ x) eq
        ∙ ap (λ (x : Float). x ∷ moved Half y b) ec
        ∙ ap (λ (x : List Float). vertex_of cost (moved Half y x)) eb
        ∙ ap (λ (x : List Float). vertex_of cost (moved Half x (point_in (best cost vs)))) ey
        ∙ behind i some (vertex_at us i))

-- every row is passed
pub shrink-ends : (cost : List Float → Float) (vs us : List Vertex) (i : ℕ) → 0 < length vs → Passed (shrunk_at cost vs) [] vs us i → length vs ≤ i → us ≡ shrunk cost vs
unfolding shrunk
shrink-ends cost [] us i some s h = absurd (not-suc-le-zero some)
shrink-ends cost (v ∷ vs) us i some s h =
    ends (shrunk_at cost (v ∷ vs)) [] (v ∷ vs) s _ h (ap suc (length-map vs _)) each
  where
    each : (i : ℕ) → i < length (v ∷ vs) → vertex_at (shrunk cost (v ∷ vs)) i ≡ shrunk_at cost (v ∷ vs) i (vertex_at (v ∷ vs) i)
    each zero k = refl
    each (suc i) k = map_at (halved cost (v ∷ vs)) [] vs i (le_of_suc-le-suc k)
