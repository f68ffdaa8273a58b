-- The cost that the search goes by is `cost` itself: over a slice that the call has filled, whatever it held. Assumes
-- nothing.
use Prim.Native.Nat.{ℕ, ◌+◌, ◌≤◌}
use mathlib.Core.Path.{◌≡◌, refl, sym, ap, ◌∙◌}
use mathlib.Core.List.{List}
use borrow.Author.Tests.{le-ltb, ne_eqb}
use native.Mathlib.Omega.{arith}
use lib.ListN.{length}
use lib.Ieee.{Float}
use Rattle.meaning.specs.Lent.{laid, counted}
use Rattle.meaning.specs.Reply.{refuse, give}
use Rattle.meaning.specs.Rows.{most}
use Rattle.meaning.proofs.Replies.{answer-not-refused}
use Rattle.models.specs.Prepared.{ready_rows, ready_demand, prepare_of}
use Rattle.models.proofs.ReadyCost.{prepared-is-cost}
use Rattle.search.specs.Prices.{price_said, price_of, ready_price_of}
use Rattle.models.specs.declared.problems.Problem.{Problem}

module _ (end : ℕ) (ready : List Float) (some : 1 ≤ end) (few : end ≤ most) (room : ready_demand end ≤ length ready) where
  prepared : prepare_of end (length ready) ≡ give (ready_rows (end + 2))
  unfolding prepare_of
  prepared =
      let z : end ≡ 0 → ⊥ = λ e. omega arith in
      rw (le-ltb most end few, ne_eqb end 0 z, le-ltb (length ready) (ready_demand end) room) refl

  -- so filling it is never refused
  pub always-prepared : (n : ℕ) → refuse n ≡ counted (prepare_of end (length ready)) → ⊥
  always-prepared n e = answer-not-refused (sym (e ∙ ap counted prepared))

pub ready-is-cost : (bins : List ℕ) (p : Problem) (ready : List Float) → 1 ≤ p.window_end → p.window_end ≤ most
    → ready_demand p.window_end ≤ length ready → (room : ℕ)
    → ready_price_of bins p (laid (prepare_of p.window_end (length ready)) ready) room ≡ price_of bins p room
unfolding ready_price_of price_of
ready-is-cost bins p ready some few long room =
    λ j. λ (list : List Float).
    price_said
    (prepared-is-cost bins p.scale p.window_end p.peak p.error p.genome list ready
    (ready_rows (p.window_end + 2)) (prepared p.window_end ready some few long) room j)
