-- What a run keeps of its simplex: the number of vertices, the numbers in each, and that every vertex's cost is the cost
-- of its coordinates. So the cost that a run reports is the cost of the list that it reports. Assumes nothing.
use Prim.Native.Nat.{ℕ, suc, ◌-◌, ◌≤◌, ◌<◌}
use mathlib.Core.Path.{◌≡◌, refl, sym, ap, ◌∙◌, subst}
use mathlib.Core.List.{List}
use native.Mathlib.Omega.{arith}
use lib.ListN.{length, length-drop, length-map}
use lib.Ieee.{Float}
use Rattle.meaning.specs.Fold.{fold}
use Rattle.meaning.proofs.Folds.{fold-keeps}
use Rattle.routines.specs.Ops.{◌⊘◌, of_count}
use Rattle.search.specs.Claims.{Sized, Priced}
use Rattle.search.specs.Order.{ordered}
use Rattle.search.specs.Points.{moved, centroid_of}
use Rattle.search.specs.Rule.{vertex_of, best, stepped}
use Rattle.search.specs.Turns.{State, turns_of}
use Rattle.search.specs.Vertices.{Vertex, vertex_at, cost_in, point_in, rows_in, flat}
use Rattle.search.specs.declared.points.Move.{Move}
use Rattle.search.specs.declared.points.Move.TheVariants.{Sum, Reflect, Expand, Half}
use Rattle.search.proofs.Kept.{ordered-so}
use Rattle.search.proofs.Moved.{moved_length}
use Rattle.search.proofs.Ordering.{ordered-length}
use Rattle.search.proofs.RowLaws.{rows_back}
use Rattle.search.proofs.Runs.{turns-keep}
use Rattle.search.proofs.Ways.{centre, farthest, across, stepped-length, stepped-so, stepped-any}

module _ (cost : List Float → Float) where
  -- ---- the costs
  some-ordered : (vs : List Vertex) → 0 < length vs → 0 < length (ordered vs)
  some-ordered vs h = subst (λ (n : ℕ). 0 < n) (sym (ordered-length vs)) h

  some-stepped : (vs : List Vertex) → 0 < length vs → 0 < length (stepped cost vs)
  some-stepped vs h = subst (λ (n : ℕ). 0 < n) (sym (stepped-length cost vs h)) h

  pub priced-step : (vs : List Vertex) → 0 < length vs → Priced cost vs → Priced cost (stepped cost vs)
  priced-step vs h = stepped-any cost vs (λ (v : Vertex). cost_in v ≡ cost (point_in v)) (λ (p : List Float). refl) h

  pub priced : (cap n : ℕ) (s : State) → 0 < length s.vertices → Priced cost s.vertices
      → Priced cost (turns_of cost cap n s).vertices
  priced cap n s h p =
      (turns-keep cost cap (λ (vs : List Vertex). (0 < length vs) × Priced cost vs)
      (λ (vs : List Vertex) (k : (0 < length vs) × Priced cost vs).
      (some-ordered vs k.0, ordered-so (λ (v : Vertex). cost_in v ≡ cost (point_in v)) vs k.1))
      (λ (vs : List Vertex) (k : (0 < length vs) × Priced cost vs).
      (some-stepped vs k.0, priced-step vs k.0 k.1))
      n s (h, p)).1

  -- ---- the number of vertices
  pub same_number : (cap n : ℕ) (s : State) → 0 < length s.vertices
      → length (turns_of cost cap n s).vertices ≡ length s.vertices
  same_number cap n s h =
      turns-keep cost cap (λ (vs : List Vertex). length vs ≡ length s.vertices)
      (λ (vs : List Vertex) (k : length vs ≡ length s.vertices). ordered-length vs ∙ k)
      (λ (vs : List Vertex) (k : length vs ≡ length s.vertices). stepped-length cost vs (omega arith) ∙ k)
      n s refl

  -- ---- the numbers in each
  module _ (w : ℕ) (wide : 0 < w) where
    abbrev wide_of : Vertex → Type 0
    wide_of v = length v ≡ w

    module _ (vs : List Vertex) (some : 1 < length vs) (all : Sized w vs) where
      point-length : (i : ℕ) → i < length vs → length (point_in (vertex_at vs i)) ≡ w - 1
      point-length i h = length-drop 1 (vertex_at vs i) ∙ ap (λ (k : ℕ). k - 1) (all i h)

      abbrev plus : ℕ → List Float → List Float
      plus i sum = moved Sum sum (point_in (vertex_at vs i))

      abbrev total : List Float
      total = fold plus 1 (length vs - 1) (point_in (vertex_at vs 0))

      centre-length : length (centroid_of vs) ≡ w - 1
      unfolding centroid_of
      centre-length =
          length-map total (λ (x : Float). x ⊘ of_count (length vs - 1))
          ∙ fold-keeps plus (λ (k : ℕ) (x : List Float). length x ≡ w - 1) 1 (length vs - 1) (point_in (vertex_at vs 0))
          (omega arith)
          (λ (k : ℕ) (x : List Float) (a : 1 ≤ k) (b : k < length vs - 1) (l : length x ≡ w - 1).
          moved_length Sum x (point_in (vertex_at vs k)) (l ∙ sym (point-length k (omega arith))) ∙ l)
          (point-length 0 (omega arith))

      far : length (farthest cost vs) ≡ w - 1
      far = point-length (length vs - 1) (omega arith)

      tried : (how : Move) (x y : List Float) → length x ≡ w - 1 → length y ≡ w - 1 → length (moved how x y) ≡ w - 1
      tried how x y a b = moved_length how x y (a ∙ sym b) ∙ a

      reflected : length (across cost vs) ≡ w - 1
      reflected = tried Reflect (centre cost vs) (farthest cost vs) centre-length far

      with-cost : (how : Move) (x y : List Float) → length x ≡ w - 1 → length y ≡ w - 1
          → length (vertex_of cost (moved how x y)) ≡ w
      with-cost how x y a b = let h : suc (w - 1) ≡ w = omega arith in ap suc (tried how x y a b) ∙ h

      pub sized-step : Sized w (stepped cost vs)
      sized-step =
          stepped-so cost vs wide_of (omega arith) all
          (λ (v : Vertex) (l : length v ≡ w).
          with-cost Half (point_in v) (point_in (best cost vs)) (length-drop 1 v ∙ ap (λ (k : ℕ). k - 1) l)
          (point-length 0 (omega arith)))
          (with-cost Reflect (centre cost vs) (farthest cost vs) centre-length far)
          (with-cost Expand (centre cost vs) (farthest cost vs) centre-length far)
          (with-cost Half (centre cost vs) (across cost vs) centre-length reflected)
          (with-cost Half (centre cost vs) (farthest cost vs) centre-length far)

    abbrev Kept : ℕ → List Vertex → Type 0
    Kept m vs = (length vs ≡ m) × Sized w vs

    pub sized : (cap n : ℕ) (s : State) → 1 < length s.vertices → Sized w s.vertices
        → Sized w (turns_of cost cap n s).vertices
    sized cap n s h p =
        (turns-keep cost cap (Kept (length s.vertices))
        (λ (vs : List Vertex) (k : Kept (length s.vertices) vs).
        (ordered-length vs ∙ k.0, ordered-so wide_of vs k.1))
        (λ (vs : List Vertex) (k : Kept (length s.vertices) vs).
        let l : length vs ≡ length s.vertices = k.0 in
        (stepped-length cost vs (omega arith) ∙ l, sized-step vs (omega arith) k.1))
        n s (refl, p)).1

  -- ---- so the vertices of a run, laid out in a slice as many rows as numbers in one, are read back as they are
  pub laid_out : (w cap n : ℕ) (s : State) → 1 < w → length s.vertices ≡ w → Sized w s.vertices
      → rows_in w w (flat (turns_of cost cap n s).vertices) ≡ (turns_of cost cap n s).vertices
  laid_out w cap n s h e p =
      let l = same_number cap n s (omega arith) ∙ e in
      rows_back w w (turns_of cost cap n s).vertices l
      (λ (i : ℕ) (k : i < w).
      sized w (omega arith) cap n s (omega arith) p i (subst (λ (m : ℕ). i < m) (sym l) k))
