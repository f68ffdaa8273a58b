-- `search::order::sink` meets its contract. Assumes nothing.
use Prim.Native.Nat.{ℕ, ◌+◌, ◌<◌}
use mathlib.Core.Path.{◌≡◌, refl, sym, ap, ◌∙◌}
use mathlib.Core.Bool.{true, false}
use mathlib.Core.List.{List}
use native.Mathlib.Omega.{arith}
use lib.ListN.{length}
use Rattle.search.specs.Simplex.{vertices_in}
use Rattle.search.specs.Vertices.{Vertex}
use Rattle.search.proofs.Costs.{less-of}
use Rattle.search.proofs.Ordering.{sunk, sunk-last, sunk-stays, sunk-goes}
use Rattle.search.proofs.SameSimplex.{vertices-length, none-changed, same-then}
use Rattle.search.proofs.order.sink.Goals as goal

pub loop-k-init : goal.loop-k-init
loop-k-init c = record { same = none-changed; state = refl }

pub returns-then-not-cost : goal.returns-then-not-cost
unfolding sunk
returns-then-not-cost c =
    let s = c.loop-k.simplex in
    let h : c.loop-k.k + 1 < length (vertices_in s) = omega (arith, vertices-length s) in
    record {
      vertices_after = sym
          (c.loop-k.invariant.state
          ∙ sunk-stays (vertices_in s) c.loop-k.k h (less-of _ _ _ _ false c.cost.ensures c.cost-in-loop-k.ensures c.if-not-cost.true));
      same = c.loop-k.invariant.same;
    }

pub loop-k-preserved : goal.loop-k-preserved
loop-k-preserved c =
    let s = c.loop-k.simplex in
    let k : ℕ = c.loop-k.k in
    let h : k + 1 < length (vertices_in s) = omega (arith, vertices-length s) in
    record {
      same = same-then c.loop-k.invariant.same c.swap_next.ensures.same;
      state = c.loop-k.invariant.state
          ∙ sunk-goes (vertices_in s) k h (less-of _ _ _ _ true c.cost.ensures c.cost-in-loop-k.ensures c.if-not-cost.false)
          ∙ sym (ap (λ (vs : List Vertex). sunk vs (k + 1)) c.swap_next.ensures.vertices_after);
    }

pub returns : goal.returns
unfolding sunk
returns c =
    let s = c.loop-k.simplex in
    let n : length (vertices_in s) ≡ s.w = vertices-length s in
    record {
      vertices_after = sym
          (c.loop-k.invariant.state ∙ sunk-last (vertices_in s) c.loop-k.k (omega (arith, n)) (omega (arith, n)));
      same = c.loop-k.invariant.same;
    }
