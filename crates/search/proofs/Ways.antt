-- An iteration by its ways: it takes one of four points, or it shrinks. Every way keeps the number of vertices and the
-- best of them. Assumes nothing.
use Prim.Native.Nat.{ℕ, suc, ◌+◌, ◌-◌, ◌<◌}
use mathlib.Core.Path.{◌≡◌, refl, sym, ap, subst}
use mathlib.Core.Bool.{Bool, true, false, cond}
use mathlib.Core.List.{List, [], ◌∷◌, map}
use native.Mathlib.Nat.{not-suc-le-zero}
use native.Mathlib.Omega.{arith}
use lib.ListN.{length, drop, length-set, length-map, length-drop}
use lib.Seq.{get_or-set_other, get_or-drop}
use lib.Ieee.{Float, lt, le}
use Rattle.search.specs.Claims.{Every}
use Rattle.search.specs.Points.{moved, centroid_of}
use Rattle.search.specs.Rule.{vertex_of, best, second_worst, worst, taken, shrunk, expanded, contracted_out}
use Rattle.search.specs.Rule.{contracted_in, stepped}
use Rattle.search.specs.Vertices.{Vertex, vertex_at, cost_in, point_in}
use Rattle.search.specs.declared.points.Move.TheVariants.{Reflect, Expand, Half}
use Rattle.search.proofs.Kept.{set_so, map-so, more-so}

module _ (cost : List Float → Float) (vs : List Vertex) where
  -- ---- the points tried
  abbrev pub centre : List Float
  centre = centroid_of vs

  abbrev pub farthest : List Float
  farthest = point_in (worst cost vs)

  abbrev pub across : List Float
  across = moved Reflect centre farthest

  abbrev pub take-point : List Float → List Vertex
  take-point p = taken cost vs (vertex_of cost p)

  -- ---- P holds after every way, so after the iteration
  module _ (P : List Vertex → Type 0) (reflects : P (take-point across))
      (expands : P (take-point (moved Expand centre farthest))) (out : P (take-point (moved Half centre across)))
      (inside : P (take-point (moved Half centre farthest))) (shrinks : P (shrunk cost vs)) where
    one_of : (b : Bool) {us ws : List Vertex} → P us → P ws → P (cond b us ws)
    one_of true p q = p
    one_of false p q = q

    cheaper : (b : Bool) (u w : Vertex) → P (taken cost vs u) → P (taken cost vs w) → P (taken cost vs (cond b u w))
    cheaper true u w p q = p
    cheaper false u w p q = q

    pub by-ways : P (stepped cost vs)
    unfolding stepped expanded contracted_out contracted_in
    by-ways =
        one_of (lt (cost across) (cost_in (best cost vs)))
        (cheaper (lt (cost (moved Expand centre farthest)) (cost across)) _ _ expands reflects)
        (one_of (lt (cost across) (cost_in (second_worst cost vs))) reflects
        (one_of (lt (cost across) (cost_in (worst cost vs)))
        (one_of (le (cost (moved Half centre across)) (cost across)) out shrinks)
        (one_of (lt (cost (moved Half centre farthest)) (cost_in (worst cost vs))) inside shrinks)))

  -- ---- the number of vertices
  shrunk-length : 0 < length vs → length (shrunk cost vs) ≡ length vs
  unfolding shrunk
  shrunk-length h = go vs h
    where
      go : (us : List Vertex) → 0 < length us → length (shrunk cost us) ≡ length us
      go [] h = absurd (not-suc-le-zero h)
      go (u ∷ us) h = ap suc (length-map us _)

  pub stepped-length : 0 < length vs → length (stepped cost vs) ≡ length vs
  stepped-length h =
      by-ways (λ (us : List Vertex). length us ≡ length vs) (length-set vs _ _) (length-set vs _ _) (length-set vs _ _)
      (length-set vs _ _) (shrunk-length h)

  -- ---- the best
  taken-best : 1 < length vs → (v : Vertex) → vertex_at (taken cost vs v) 0 ≡ vertex_at vs 0
  taken-best h v = get_or-set_other vs (length vs - 1) 0 v [] (λ (e : 0 ≡ length vs - 1). omega arith)

  pub stepped-best : 1 < length vs → vertex_at (stepped cost vs) 0 ≡ vertex_at vs 0
  unfolding shrunk
  stepped-best h =
      by-ways (λ (us : List Vertex). vertex_at us 0 ≡ vertex_at vs 0) (taken-best h _) (taken-best h _) (taken-best h _)
      (taken-best h _) refl

  -- ---- what every vertex has, where every point tried has it with its cost
  abbrev pub halved : Vertex → Vertex
  halved v = vertex_of cost (moved Half (point_in v) (point_in (best cost vs)))

  module _ (Q : Vertex → Type 0) (some : 0 < length vs) (all : Every Q vs) (halves : (v : Vertex) → Q v → Q (halved v)) where
    shrunk-so : Every Q (shrunk cost vs)
    unfolding shrunk
    shrunk-so =
        more-so Q (best cost vs) (map halved (drop 1 vs)) (all 0 some) (map-so Q halved halves (drop 1 vs) behind)
      where
        behind : (i : ℕ) → i < length (drop 1 vs) → Q (vertex_at (drop 1 vs) i)
        behind i h =
            let l : length (drop 1 vs) ≡ length vs - 1 = length-drop 1 vs in
            subst Q (sym (get_or-drop 1 vs i [])) (all (1 + i) (omega arith))

    pub stepped-so : Q (vertex_of cost across) → Q (vertex_of cost (moved Expand centre farthest))
        → Q (vertex_of cost (moved Half centre across)) → Q (vertex_of cost (moved Half centre farthest))
        → Every Q (stepped cost vs)
    stepped-so r e o i =
        by-ways (Every Q) (set_so Q vs _ _ all r) (set_so Q vs _ _ all e) (set_so Q vs _ _ all o) (set_so Q vs _ _ all i)
        shrunk-so

  pub stepped-any : (Q : Vertex → Type 0) → ((p : List Float) → Q (vertex_of cost p)) → 0 < length vs → Every Q vs
      → Every Q (stepped cost vs)
  stepped-any Q q some all =
      stepped-so Q some all (λ (v : Vertex) (_ : Q v). q _) (q across) (q _) (q _) (q _)
