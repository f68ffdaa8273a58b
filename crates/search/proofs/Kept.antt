-- What every vertex of a simplex has, and what keeps it: a vertex put in another's place, vertices made of vertices, and
-- ordering. Assumes nothing.
use Prim.Native.Nat.{ℕ, zero, suc, ◌<◌, suc-le-suc}
use mathlib.Core.Path.{◌≡◌, refl, sym, subst}
use mathlib.Core.Bool.{Bool, true, false}
use mathlib.Core.List.{List, [], ◌∷◌, map}
use native.Mathlib.Nat.{le_of_suc-le-suc, not-suc-le-zero, zero-lt-suc}
use lib.ListN.{length, set}
use lib.Ieee.{lt}
use Rattle.search.specs.Claims.{Every}
use Rattle.search.specs.Order.{insert, ordered}
use Rattle.search.specs.Vertices.{Vertex, cost_in}
use Rattle.search.proofs.Ordering.{insert-stays, insert-goes}

module _ (Q : Vertex → Type 0) where
  rest-so : (v : Vertex) (vs : List Vertex) → Every Q (v ∷ vs) → Every Q vs
  rest-so v vs a i h = a (suc i) (suc-le-suc h)

  pub more-so : (v : Vertex) (vs : List Vertex) → Q v → Every Q vs → Every Q (v ∷ vs)
  more-so v vs q a zero h = q
  more-so v vs q a (suc i) h = a i (le_of_suc-le-suc h)

  pub set_so : (vs : List Vertex) (j : ℕ) (v : Vertex) → Every Q vs → Q v → Every Q (set vs j v)
  set_so [] j v a q = a
  set_so (u ∷ us) zero v a q = more-so v us q (rest-so u us a)
  set_so (u ∷ us) (suc j) v a q =
      more-so u (set us j v) (a 0 (zero-lt-suc (length us))) (set_so us j v (rest-so u us a) q)

  pub map-so : (f : Vertex → Vertex) → ((v : Vertex) → Q v → Q (f v)) → (vs : List Vertex) → Every Q vs → Every Q (map f vs)
  map-so f g [] a = λ (i : ℕ) (h : i < 0). absurd (not-suc-le-zero h)
  map-so f g (u ∷ us) a =
      more-so (f u) (map f us) (g u (a 0 (zero-lt-suc (length us)))) (map-so f g us (rest-so u us a))

  insert-so : (v : Vertex) (us : List Vertex) → Q v → Every Q us → Every Q (insert v us)
  insert-so v [] q a = unfold insert in more-so v [] q a
  insert-so v (u ∷ us) q a = go (insert-so v us q (rest-so u us a)) (lt (cost_in u) (cost_in v)) refl
    where
      go : Every Q (insert v us) → (b : Bool) → lt (cost_in u) (cost_in v) ≡ b → Every Q (insert v (u ∷ us))
      go r true e =
          subst (Every Q) (sym (insert-goes v u us e)) (more-so u (insert v us) (a 0 (zero-lt-suc (length us))) r)
      go r false e = subst (Every Q) (sym (insert-stays v u us e)) (more-so v (u ∷ us) q a)

  pub ordered-so : (vs : List Vertex) → Every Q vs → Every Q (ordered vs)
  unfolding ordered
  ordered-so [] a = a
  ordered-so (v ∷ vs) a = insert-so v (ordered vs) (a 0 (zero-lt-suc (length vs))) (ordered-so vs (rest-so v vs a))
