-- `search::order::order` meets its contract. Assumes nothing.
use Prim.Native.Nat.{ℕ, ◌+◌, ◌-◌}
use mathlib.Core.Path.{◌≡◌, ap, ◌∙◌}
use mathlib.Core.List.{List}
use native.Mathlib.Nat.{le_of_eq}
use native.Mathlib.Omega.{arith}
use Rattle.search.specs.Simplex.{vertices_in}
use Rattle.search.specs.Vertices.{Vertex}
use Rattle.search.proofs.Ordering.{sunk, ordered_from, none-ordered, one-more-ordered, all-ordered}
use Rattle.search.proofs.SameSimplex.{vertices-length, none-changed, same-then}
use Rattle.search.proofs.order.order.Goals as goal

pub loop-i-init : goal.loop-i-init
loop-i-init c =
    let s = c.args.simplex.now in
    record { same = none-changed; state = none-ordered (vertices_in s) s.w (le_of_eq (vertices-length s)) }

pub loop-i-preserved : goal.loop-i-preserved
unfolding sunk
loop-i-preserved c =
    let s = c.args.simplex.now in
    let vs : List Vertex = vertices_in s in
    let j : ℕ = c.loop-i.i - 1 in
    let e : c.loop-i.i ≡ j + 1 = omega arith in
    record {
      same = same-then c.loop-i.invariant.same c.sink.ensures.same;
      state = c.sink.ensures.vertices_after
          ∙ ap (λ (us : List Vertex). sunk us j) (c.loop-i.invariant.state ∙ ap (ordered_from vs) e)
          ∙ one-more-ordered vs j (omega (arith, vertices-length s));
    }

pub returns : goal.returns
returns c =
    let vs : List Vertex = vertices_in c.args.simplex.now in
    let e : c.loop-i.i ≡ 0 = omega arith in
    record {
      vertices_after = c.loop-i.invariant.state ∙ ap (ordered_from vs) e ∙ all-ordered vs;
      same = c.loop-i.invariant.same;
    }
