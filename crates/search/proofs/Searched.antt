-- A run among many: what a call that goes on with it leaves in its block of the slice, and of its progress. Assumes
-- nothing.
use Prim.Native.Nat.{ℕ, ◌*◌, ◌≤◌, ◌<◌}
use mathlib.Core.Path.{◌≡◌, refl, sym, ap, ◌∙◌}
use mathlib.Core.Bool.{false}
use mathlib.Core.List.{List}
use native.Mathlib.Omega.{arith}
use lib.Dec.{lit≤}
use lib.ListN.{length, get_or}
use lib.Seq.{take_all}
use lib.Ieee.{Float}
use Rattle.meaning.specs.Flags.{is_set}
use Rattle.meaning.specs.Reply.{refuse, give, first_of}
use Rattle.meaning.proofs.Chains.{chain-refused, chain-passed}
use Rattle.models.specs.Refusals.{spectrum_tests}
use Rattle.models.specs.declared.families.GenomeModel.{GenomeModel}
use Rattle.models.specs.declared.families.GenomeModel.TheVariants.{NegativeBinomial, ShelfNegativeBinomial}
use Rattle.search.specs.Prices.{cap_of}
use Rattle.search.specs.Progress.{state_of}
use Rattle.search.specs.Refusing.{short_runs, search_tests}
use Rattle.search.specs.Searches.{state_at, after_at, run_searches_of}
use Rattle.search.specs.Turns.{State, turns_of}
use Rattle.search.specs.Vertices.{Vertex, vertex_at, rows_in, flat}
use Rattle.models.specs.declared.problems.Problem.{Problem}
use Rattle.search.specs.declared.refusing.Lent.{Lent}
use Rattle.search.specs.declared.turns.Progress.{Progress}
use Rattle.search.proofs.RowLaws.{rows-flat}

-- a block is its rows laid out
pub block-is : (w : ℕ) (block : List Float) (vs : List Vertex) → length block ≡ w * w → rows_in w w block ≡ vs → block ≡ flat vs
block-is w block vs l e =
    sym (take_all (w * w) block (omega arith)) ∙ sym (rows-flat w w block (omega arith)) ∙ ap flat e

module _ (w : ℕ) (simplexes : List Float) (iterations stopped : List ℕ) (runs : ℕ)
    (cost : List Float → Float) (cap limit : ℕ) where
  abbrev after : ℕ → State
  after i = after_at w simplexes iterations stopped runs cost cap limit i

  pub turned : (i : ℕ) (found left : List Float) (p q : Progress) → found ≡ vertex_at (rows_in (w * w) runs simplexes) i
      → p.iterations ≡ get_or iterations i 0 → p.stopped ≡ is_set (get_or stopped i 0)
      → state_of w left q ≡ turns_of cost cap limit (state_of w found p) → state_of w left q ≡ after i
  unfolding after_at state_at
  turned i found left p q ef ei es e =
      let s : state_of w found p ≡ state_at w simplexes iterations stopped runs i =
      λ j. record { vertices = rows_in w w (ef j); iterations = ei j; stopped = es j } in
      e ∙ ap (turns_of cost cap limit) s

-- ---- what the call answers
module _ (bins : List ℕ) (p : Problem) (runs : ℕ) (lent : Lent) where
  pub runs-refused : (n : ℕ) → n ≡ first_of (search_tests bins p runs false lent) → 0 < n → refuse n ≡ run_searches_of bins p runs lent
  unfolding run_searches_of
  runs-refused n e h = sym (chain-refused (give runs) (search_tests bins p runs false lent) n e h)

  pub runs-given : 0 ≡ first_of (search_tests bins p runs false lent) → give runs ≡ run_searches_of bins p runs lent
  unfolding run_searches_of search_tests spectrum_tests short_runs
  runs-given z = sym (chain-passed (give runs) (search_tests bins p runs false lent) refl z)

pub cap-few : (genome : GenomeModel) → cap_of genome ≤ 2000
cap-few NegativeBinomial = lit≤ tt
cap-few ShelfNegativeBinomial = lit≤ tt
