-- What a turn comes to, out of the vertices that it has put in order; and that a run which has not ended is below its
-- cap. Assumes nothing.
use Prim.Native.Nat.{ℕ, suc, ◌+◌, ◌<◌}
use mathlib.Core.Path.{◌≡◌, sym, ap, ◌∙◌}
use mathlib.Core.Bool.{Bool, true, false, ◌||◌, true≢false}
use mathlib.Core.List.{List}
use native.Mathlib.Numerals.{add-one}
use lib.Dec.{leb}
use lib.Ieee.{Float}
use borrow.Author.Tests.{leb-false}
use Rattle.search.specs.Order.{ordered}
use Rattle.search.specs.Rule.{stepped}
use Rattle.search.specs.Spread.{settled}
use Rattle.search.specs.Turns.{State, ended, next_of}
use Rattle.search.specs.Vertices.{Vertex}

module _ (cost : List Float → Float) (s : State) (vs : List Vertex) (e : vs ≡ ordered s.vertices) where
  test-is : (b : Bool) → settled vs ≡ b → settled (ordered s.vertices) ≡ b
  test-is b h = ap settled (sym e) ∙ h

  pub settles : settled vs ≡ true → record { vertices = vs; iterations = s.iterations; stopped = true } ≡ next_of cost s
  unfolding next_of
  settles h = rw (test-is true h) (ap (λ (us : List Vertex). record { vertices = us; iterations = s.iterations; stopped = true }) e)

  pub steps : (us : List Vertex) → settled vs ≡ false → us ≡ stepped cost vs
      → record { vertices = us; iterations = s.iterations + 1; stopped = false } ≡ next_of cost s
  unfolding next_of
  steps us h f =
      rw (test-is false h, add-one)
      (ap (λ (r : List Vertex). record { vertices = r; iterations = suc s.iterations; stopped = false })
      (f ∙ ap (stepped cost) e))

pub below-cap : (cap : ℕ) (s : State) → ended cap s ≡ false → s.iterations < cap
below-cap cap s e = leb-false cap s.iterations (second s.stopped (leb cap s.iterations) e)
  where
    second : (a b : Bool) → (a || b) ≡ false → b ≡ false
    second true b h = absurd (true≢false h)
    second false b h = h
