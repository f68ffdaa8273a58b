-- The parts of an iteration: which vertex is the worst, and what each way of the rule comes to. Assumes nothing.
use Prim.Native.Nat.{ℕ, ◌-◌}
use mathlib.Core.Path.{◌≡◌, refl, sym, ap, subst, ◌∙◌}
use mathlib.Core.Bool.{Bool, true, false, cond}
use mathlib.Core.List.{List, ◌∷◌}
use native.Mathlib.Omega.{arith}
use lib.ListN.{length, set}
use lib.Ieee.{Float, lt, le}
use Rattle.search.specs.Points.{moved, centroid_of}
use Rattle.search.specs.Rule.{best, second_worst, worst, taken, shrunk, expanded, contracted_out, contracted_in}
use Rattle.search.specs.Rule.{stepped}
use Rattle.search.specs.Vertices.{Vertex, vertex_at, cost_in, point_in}
use Rattle.search.specs.declared.points.Move.TheVariants.{Reflect, Expand, Half}

-- w vertices
module _ (cost : List Float → Float) (vs : List Vertex) (w : ℕ) (long : length vs ≡ w) where
  abbrev last : Vertex
  last = vertex_at vs (w - 1)

  last-place : length vs - 1 ≡ w - 1
  last-place = ap (λ (k : ℕ). k - 1) long

  worst-point : point_in (worst cost vs) ≡ point_in last
  worst-point = ap (λ (k : ℕ). point_in (vertex_at vs k)) last-place

  worst-cost : cost_in (worst cost vs) ≡ cost_in last
  worst-cost = ap (λ (k : ℕ). cost_in (vertex_at vs k)) last-place

  pub taken_is : (v : Vertex) → set vs (w - 1) v ≡ taken cost vs v
  taken_is v = ap (λ (k : ℕ). set vs k v) (sym last-place)

  -- ---- the point reflected is the cheapest: c is the centroid, and y the worst one's coordinates
  module _ (c p y : List Float) (ey : y ≡ point_in last) (reflected : Float) (q : List Float) (e : Float)
      (eq : q ≡ moved Expand c y) (ee : e ≡ cost (moved Expand c y)) where
    abbrev made : List Float → Vertex
    made z = cond (lt (cost (moved Expand c z)) reflected) (cost (moved Expand c z) ∷ moved Expand c z) (reflected ∷ p)

    pub expanded-is : (b : Bool) → lt e reflected ≡ b
        → set vs (w - 1) (cond b (e ∷ q) (reflected ∷ p)) ≡ expanded cost vs c (reflected ∷ p)
    unfolding expanded
    expanded-is b eb =
        ap (λ (t : Bool). set vs (w - 1) (cond t (e ∷ q) (reflected ∷ p))) (sym eb)
        ∙ ap (λ (x : List Float). set vs (w - 1) (cond (lt e reflected) (e ∷ x) (reflected ∷ p))) eq
        ∙ ap (λ (x : Float). set vs (w - 1) (cond (lt x reflected) (x ∷ moved Expand c y) (reflected ∷ p))) ee
        ∙ ap (λ (z : List Float). set vs (w - 1) (made z)) (ey ∙ sym worst-point)
        ∙ taken_is (made (point_in (worst cost vs)))

  -- ---- the point between the centroid and the one reflected
  module _ (c p : List Float) (reflected : Float) (q : List Float) (o : Float)
      (eq : q ≡ moved Half c p) (eo : o ≡ cost (moved Half c p)) where
    pub out-taken : le o reflected ≡ true → set vs (w - 1) (o ∷ q) ≡ contracted_out cost vs c (reflected ∷ p)
    unfolding contracted_out
    out-taken b =
        let t : le (cost (moved Half c p)) reflected ≡ true = ap (λ (x : Float). le x reflected) (sym eo) ∙ b in
        rw (eq, eo, t) (taken_is (cost (moved Half c p) ∷ moved Half c p))

    pub out-shrunk : le o reflected ≡ false → shrunk cost vs ≡ contracted_out cost vs c (reflected ∷ p)
    unfolding contracted_out
    out-shrunk b =
        let t : le (cost (moved Half c p)) reflected ≡ false = ap (λ (x : Float). le x reflected) (sym eo) ∙ b in
        rw t refl

  -- ---- the point between the centroid and the worst, which costs d
  module _ (c y : List Float) (ey : y ≡ point_in last) (q : List Float) (i d : Float) (eq : q ≡ moved Half c y)
      (ei : i ≡ cost (moved Half c y)) (ed : d ≡ cost_in last) where
    same_point : q ≡ moved Half c (point_in (worst cost vs))
    same_point = eq ∙ ap (moved Half c) (ey ∙ sym worst-point)

    same-cost : i ≡ cost (moved Half c (point_in (worst cost vs)))
    same-cost = ei ∙ ap (λ (x : List Float). cost (moved Half c x)) (ey ∙ sym worst-point)

    test-is : (b : Bool) → lt i d ≡ b → lt (cost (moved Half c (point_in (worst cost vs)))) (cost_in (worst cost vs)) ≡ b
    test-is b e = ap (λ (x : Float). lt x (cost_in (worst cost vs))) (sym same-cost) ∙ ap (lt i) (worst-cost ∙ sym ed) ∙ e

    pub in_taken : lt i d ≡ true → set vs (w - 1) (i ∷ q) ≡ contracted_in cost vs c
    unfolding contracted_in
    in_taken b =
        rw (test-is true b)
        (ap (λ (x : Float). set vs (w - 1) (x ∷ q)) same-cost
        ∙ ap (λ (x : List Float). set vs (w - 1) (cost (moved Half c (point_in (worst cost vs))) ∷ x)) same_point
        ∙ taken_is (cost (moved Half c (point_in (worst cost vs))) ∷ moved Half c (point_in (worst cost vs))))

    pub in-shrunk : lt i d ≡ false → shrunk cost vs ≡ contracted_in cost vs c
    unfolding contracted_in
    in-shrunk b = rw (test-is false b) refl

  -- ---- which way it goes: q is the point reflected, v its cost
  module _ (c y : List Float) (ec : c ≡ centroid_of vs) (ey : y ≡ point_in last) (q : List Float) (v : Float)
      (eq : q ≡ moved Reflect c y) (ev : v ≡ cost (moved Reflect c y)) where
    abbrev body : List Float → Float → List Float → List Vertex
    body c v q =
        cond (lt v (cost_in (best cost vs))) (expanded cost vs c (v ∷ q))
        (cond (lt v (cost_in (second_worst cost vs))) (taken cost vs (v ∷ q))
        (cond (lt v (cost_in (worst cost vs))) (contracted_out cost vs c (v ∷ q)) (contracted_in cost vs c)))

    body_is : body c v q ≡ stepped cost vs
    unfolding stepped
    body_is =
        let bad = point_in (worst cost vs) in
        let e : y ≡ bad = ey ∙ sym worst-point in
        ap (λ (x : Float). body c x q) (ev ∙ ap (λ (z : List Float). cost (moved Reflect c z)) e)
        ∙ ap (body c (cost (moved Reflect c bad))) (eq ∙ ap (moved Reflect c) e)
        ∙ ap (λ (x : List Float). body x (cost (moved Reflect x bad)) (moved Reflect x bad)) ec

    test-1 : (t : Bool) (b : Float) → b ≡ cost_in (vertex_at vs 0) → lt v b ≡ t → lt v (cost_in (best cost vs)) ≡ t
    test-1 t b eb e = ap (lt v) (sym eb) ∙ e

    test-2 : (t : Bool) (b : Float) → b ≡ cost_in (vertex_at vs (w - 1 - 1)) → lt v b ≡ t → lt v (cost_in (second_worst cost vs)) ≡ t
    test-2 t b eb e =
        let place : length vs - 2 ≡ w - 1 - 1 = omega arith in
        ap (λ (k : ℕ). lt v (cost_in (vertex_at vs k))) place ∙ ap (lt v) (sym eb) ∙ e

    test-3 : (t : Bool) (b : Float) → b ≡ cost_in last → lt v b ≡ t → lt v (cost_in (worst cost vs)) ≡ t
    test-3 t b eb e = ap (lt v) (worst-cost ∙ sym eb) ∙ e

    module _ (b₁ : Float) (eb₁ : b₁ ≡ cost_in (vertex_at vs 0)) where
      pub below-best : lt v b₁ ≡ true → expanded cost vs c (v ∷ q) ≡ stepped cost vs
      below-best e = subst (λ (x : List Vertex). expanded cost vs c (v ∷ q) ≡ x) body_is (rw (test-1 true b₁ eb₁ e) refl)

      module _ (e₁ : lt v b₁ ≡ false) (b₂ : Float) (eb₂ : b₂ ≡ cost_in (vertex_at vs (w - 1 - 1))) where
        pub below-second : lt v b₂ ≡ true → set vs (w - 1) (v ∷ q) ≡ stepped cost vs
        below-second e₂ = taken_is (v ∷ q) ∙ subst (λ (x : List Vertex). taken cost vs (v ∷ q) ≡ x) body_is (rw (test-1 false b₁ eb₁ e₁, test-2 true b₂ eb₂ e₂) refl)

        module _ (e₂ : lt v b₂ ≡ false) (b₃ : Float) (eb₃ : b₃ ≡ cost_in last) where
          pub below-worst : lt v b₃ ≡ true → contracted_out cost vs c (v ∷ q) ≡ stepped cost vs
          below-worst e₃ = subst (λ (x : List Vertex). contracted_out cost vs c (v ∷ q) ≡ x) body_is (rw (test-1 false b₁ eb₁ e₁, test-2 false b₂ eb₂ e₂, test-3 true b₃ eb₃ e₃) refl)

          pub not-below : lt v b₃ ≡ false → contracted_in cost vs c ≡ stepped cost vs
          not-below e₃ = subst (λ (x : List Vertex). contracted_in cost vs c ≡ x) body_is (rw (test-1 false b₁ eb₁ e₁, test-2 false b₂ eb₂ e₂, test-3 false b₃ eb₃ e₃) refl)
