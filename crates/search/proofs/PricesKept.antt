-- What a price leaves as it was, over several of them. Assumes nothing.
use Prim.Native.Nat.{ℕ}
use mathlib.Core.Path.{◌≡◌, refl, sym, ap, subst, ◌∙◌}
use mathlib.Core.List.{List}
use lib.Ieee.{Float}
use lib.ListN.{drop}
use Rattle.meaning.specs.Reply.{Reply, give}
use Rattle.models.specs.declared.problems.Problem.{Problem}
use Rattle.search.specs.Priced.{IsKept}
use Rattle.search.specs.Prices.{stands_from}
use Rattle.search.specs.Searches.{stood_from}
use Rattle.search.specs.declared.prices.Prices.{Prices}

pub none-priced : {p : Prices} → IsKept p p
none-priced = record { prices = refl; problem = refl; stands = refl; lent = refl }

pub kept-then : {p q r : Prices} → IsKept p q → IsKept q r → IsKept p r
kept-then {p} {q} {r} a b =
    record {
      prices = b.prices ∙ a.prices;
      problem = b.problem ∙ a.problem;
      stands = subst (λ (x : Problem). drop (stands_from x) r.table.now ≡ drop (stands_from x) q.table.now) a.problem b.stands ∙ a.stands;
      lent = b.lent ∙ a.lent;
    }

-- the table once it is no longer lent, where the answer is no refusal
pub stands-last : {p q : Prices} → IsKept p q → (n : ℕ) (x : Reply ℕ) → give n ≡ x → (last : List Float) (name : ℕ)
    → name ≡ p.table.ghost_name → (name ≡ q.table.ghost_name → last ≡ q.table.now)
    → drop (stood_from p.problem x) last ≡ drop (stood_from p.problem x) p.table.now
stands-last {p} {q} kept n x e last name en back =
    subst (λ (y : Reply ℕ). drop (stood_from p.problem y) last ≡ drop (stood_from p.problem y) p.table.now) e
    (ap (drop (stands_from p.problem)) (back (en ∙ sym kept.lent)) ∙ kept.stands)
