-- The best cost never rises: not by an iteration, and not along a run. A cost that is a NaN is compared with nothing, so
-- both ask that there is none. Assumes nothing.
use Prim.Native.Nat.{ℕ, suc, ◌<◌}
use mathlib.Core.Path.{◌≡◌, sym, ap, ◌∙◌}
use mathlib.Core.Bool.{true, false}
use mathlib.Core.List.{List}
use native.Mathlib.Omega.{arith}
use lib.ListN.{length}
use lib.Ieee.{Float, lt, is_nan}
use Rattle.search.specs.Claims.{least_of}
use Rattle.search.specs.Order.{ordered}
use Rattle.search.specs.Ordered.{Costed}
use Rattle.search.specs.Rule.{stepped}
use Rattle.search.specs.Turns.{State, ended, turns_of}
use Rattle.search.specs.Vertices.{Vertex, vertex_at, cost_in}
use Rattle.search.proofs.Kept.{ordered-so}
use Rattle.search.proofs.Ordering.{ordered-length}
use Rattle.search.proofs.Runs.{stepped_at, stopped_at, by-turns}
use Rattle.search.proofs.Sorted.{lt-itself, not_through, ordered-twice, best-first}
use Rattle.search.proofs.Ways.{stepped-length, stepped-best, stepped-any}

module _ (cost : List Float → Float) where
  -- ---- an iteration: the best vertex is kept, so the first of the next order costs no more
  pub best-never-rises : (vs : List Vertex) → 1 < length vs → Costed (stepped cost vs)
      → lt (cost_in (vertex_at vs 0)) (least_of (stepped cost vs)) ≡ false
  best-never-rises vs h N =
      let l = stepped-length cost vs (omega arith) in
      ap (λ (v : Vertex). lt (cost_in v) (least_of (stepped cost vs))) (sym (stepped-best cost vs h))
      ∙ best-first (stepped cost vs) N 0 (omega (arith, l))

  -- ---- a run, where the cost is never a NaN
  module _ (number : (p : List Float) → is_nan (cost p) ≡ false) where
    abbrev numbered : Vertex → Type 0
    numbered v = is_nan (cost_in v) ≡ false

    costed-step : (vs : List Vertex) → 0 < length vs → Costed vs → Costed (stepped cost vs)
    costed-step vs = stepped-any cost vs numbered number

    abbrev NotAbove : ℕ → State → State → Type 0
    NotAbove n s e =
        1 < length s.vertices → Costed s.vertices → lt (least_of s.vertices) (least_of e.vertices) ≡ false

    same : (n : ℕ) (s : State) → NotAbove n s s
    same n s h N = lt-itself (least_of s.vertices)

    stops : (n : ℕ) (s : State) → NotAbove n s (stopped_at s)
    stops n s h N =
        ap (λ (vs : List Vertex). lt (least_of s.vertices) (cost_in (vertex_at vs 0))) (ordered-twice s.vertices)
        ∙ lt-itself (least_of s.vertices)

    goes_on : (n m : ℕ) (s e : State) → NotAbove n (stepped_at cost s) e → NotAbove m s e
    goes_on n m s e r h N =
        let vs = ordered s.vertices in
        let l = ordered-length s.vertices in
        let k = stepped-length cost vs (omega (arith, l)) in
        let next : Costed (stepped cost vs) = costed-step vs (omega (arith, l)) (ordered-so numbered s.vertices N) in
        not_through (least_of s.vertices) (least_of (stepped cost vs)) (least_of e.vertices)
        (ordered-so numbered (stepped cost vs) next 0 (omega (arith, l, k, ordered-length (stepped cost vs))))
        (best-never-rises vs (omega (arith, l)) next)
        (r (omega (arith, l, k)) next)

    pub never-rises : (cap n : ℕ) (s : State) → 1 < length s.vertices → Costed s.vertices
        → lt (least_of s.vertices) (least_of (turns_of cost cap n s).vertices) ≡ false
    never-rises cap n s =
        by-turns cost cap NotAbove (same 0) (λ (k : ℕ) (t : State) (_ : ended cap t ≡ true). same k t)
        (λ (k : ℕ) (t : State) (_ : ended cap t ≡ false). stops k t)
        (λ (k : ℕ) (t e : State) (_ : ended cap t ≡ false) (r : NotAbove k (stepped_at cost t) e). goes_on k (suc k) t e r)
        n s
