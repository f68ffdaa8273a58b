-- The vertex that is reported costs least: where no cost is a NaN, no vertex costs less, and it is the very one that the
-- order puts first. So the cost that is reported is the one that never rises along a run. Assumes nothing.
use Prim.Native.Nat.{ℕ, zero, suc, ◌≤◌, ◌<◌, suc-le-suc}
use mathlib.Core.Path.{◌≡◌, refl, sym, ap, ◌∙◌, subst}
use mathlib.Core.Bool.{Bool, true, false, not, ◌&&◌, cond}
use mathlib.Core.List.{List, [], ◌∷◌}
use mathlib.Core.Logic.{⊎_elim}
use native.Mathlib.Nat.{eq-or-lt_of_le, le_of_suc-le-suc, not-suc-le-zero, zero-lt-suc}
use native.Mathlib.Omega.{arith}
use lib.ListN.{length}
use lib.Ieee.{Float, lt}
use Rattle.meaning.proofs.Folds.{fold-keeps}
use Rattle.models.proofs.Outdone.{under, asymmetric}
use Rattle.search.specs.Claims.{least_of}
use Rattle.search.specs.Order.{ordered}
use Rattle.search.specs.Ordered.{Costed, those, ties}
use Rattle.search.specs.Reporting.{least_place, least_cost}
use Rattle.search.specs.Vertices.{Vertex, vertex_at, cost_in}
use Rattle.search.proofs.Kept.{ordered-so}
use Rattle.search.proofs.Ordering.{ordered-length}
use Rattle.search.proofs.Reported.{lesser, least_fits}
use Rattle.search.proofs.Sorted.{lt-itself, not_through, stable, best-first}

module _ (vs : List Vertex) (N : Costed vs) where
  abbrev cost_at : ℕ → Float
  cost_at i = cost_in (vertex_at vs i)

  -- of the first k, x is the cheapest, and the earliest of those
  record Leads (k x : ℕ) : Type 0 where
    inside : x < length vs
    least : (j : ℕ) → j < k → lt (cost_at j) (cost_at x) ≡ false
    earliest : (j : ℕ) → j < x → lt (cost_at x) (cost_at j) ≡ true

  -- what is below x is below all that is not below x
  below : (j k x : ℕ) → j < length vs → lt (cost_at k) (cost_at x) ≡ true → lt (cost_at j) (cost_at x) ≡ false
      → lt (cost_at k) (cost_at j) ≡ true
  below j k x h e f = go (lt (cost_at k) (cost_at j)) refl
    where
      go : (b : Bool) → lt (cost_at k) (cost_at j) ≡ b → b ≡ true
      go true g = refl
      go false g = sym f ∙ under (cost_at k) (cost_at j) (cost_at x) e g (N j h)

  leads-on : (k x : ℕ) → 1 ≤ k → k < length vs → Leads k x → Leads (suc k) (lesser vs k x)
  leads-on k x m h s = go (lt (cost_at k) (cost_at x)) refl
    where
      go : (b : Bool) → lt (cost_at k) (cost_at x) ≡ b → Leads (suc k) (cond b k x)
      go true e =
          record {
            inside = h;
            least =
                λ (j : ℕ) (l : j < suc k).
                ⊎_elim (λ (p : j ≡ k). ap (λ (n : ℕ). lt (cost_at n) (cost_at k)) p ∙ lt-itself (cost_at k))
                (λ (l : j < k).
                not_through (cost_at j) (cost_at x) (cost_at k) (N x s.inside) (s.least j l)
                (asymmetric (cost_at k) (cost_at x) e).0)
                (eq-or-lt_of_le (le_of_suc-le-suc l));
            earliest = λ (j : ℕ) (l : j < k). below j k x (omega arith) e (s.least j l);
          }
      go false e =
          record {
            inside = s.inside;
            least =
                λ (j : ℕ) (l : j < suc k).
                ⊎_elim (λ (p : j ≡ k). ap (λ (n : ℕ). lt (cost_at n) (cost_at x)) p ∙ e) (s.least j)
                (eq-or-lt_of_le (le_of_suc-le-suc l));
            earliest = s.earliest;
          }

  module _ (some : 0 < length vs) where
    leads : Leads (length vs) (least_place vs)
    unfolding least_place
    leads =
        fold-keeps (lesser vs) Leads 1 (length vs) 0 some leads-on
        (record {
          inside = some;
          least =
              λ (j : ℕ) (l : j < 1).
              let z : j ≡ 0 = omega arith in ap (λ (n : ℕ). lt (cost_at n) (cost_at 0)) z ∙ lt-itself (cost_at 0);
          earliest = λ (j : ℕ) (l : j < 0). absurd (not-suc-le-zero l);
        })

    -- ---- THE THEOREM: no vertex costs less than what is reported
    pub least-is-best : (i : ℕ) → i < length vs → lt (cost_at i) (least_cost vs) ≡ false
    least-is-best = leads.least

-- ---- the first that passes a test
first_passes : (p : Vertex → Bool) (vs : List Vertex) (k : ℕ) → k < length vs → p (vertex_at vs k) ≡ true
    → ((j : ℕ) → j < k → p (vertex_at vs j) ≡ false) → vertex_at (those p vs) 0 ≡ vertex_at vs k
unfolding those
first_passes p [] k h t f = absurd (not-suc-le-zero h)
first_passes p (v ∷ vs) zero h t f = rw t
first_passes p (v ∷ vs) (suc k) h t f =
    rw (f 0 (zero-lt-suc k)) (first_passes p vs k (le_of_suc-le-suc h) t (λ (j : ℕ) (l : j < k). f (suc j) (suc-le-suc l)))

ties-with : (c : Float) (v : Vertex) → lt (cost_in v) c ≡ false → lt c (cost_in v) ≡ false → ties c v ≡ true
ties-with c v e f = rw (e, f)

costs-more : (c : Float) (v : Vertex) → lt c (cost_in v) ≡ true → ties c v ≡ false
costs-more c v e = rw e (go (lt (cost_in v) c))
  where
    go : (b : Bool) → (not b && false) ≡ false
    go true = refl
    go false = refl

-- ---- it is the first of those in order: both are the earliest of the cheapest
module _ (vs : List Vertex) (N : Costed vs) (some : 0 < length vs) where
  some-ordered : 0 < length (ordered vs)
  some-ordered = subst (λ (n : ℕ). 0 < n) (sym (ordered-length vs)) some

  first-not-less : lt (least_of vs) (least_cost vs) ≡ false
  first-not-less = ordered-so (λ (v : Vertex). lt (cost_in v) (least_cost vs) ≡ false) vs (least-is-best vs N some) 0 some-ordered

  pub least-is-first : vertex_at vs (least_place vs) ≡ vertex_at (ordered vs) 0
  least-is-first =
      let h : least_place vs < length vs = least_fits vs some in
      sym (first_passes (ties (least_cost vs)) vs (least_place vs) h
      (ties-with (least_cost vs) (vertex_at vs (least_place vs)) (lt-itself (least_cost vs)) (lt-itself (least_cost vs)))
      (λ (j : ℕ) (l : j < least_place vs). costs-more (least_cost vs) (vertex_at vs j) ((leads vs N some).earliest j l)))
      ∙ sym (ap (λ (us : List Vertex). vertex_at us 0) (stable (least_cost vs) (N (least_place vs) h) vs))
      ∙ first_passes (ties (least_cost vs)) (ordered vs) 0 some-ordered
      (ties-with (least_cost vs) (vertex_at (ordered vs) 0) first-not-less (best-first vs N (least_place vs) h))
      (λ (j : ℕ) (l : j < 0). absurd (not-suc-le-zero l))

  pub least-agrees : least_cost vs ≡ least_of vs
  least-agrees = ap cost_in least-is-first
