-- What the call that begins the runs of many starts answers. Assumes nothing.
use Prim.Native.Nat.{ℕ, ◌<◌}
use mathlib.Core.Path.{◌≡◌, refl, sym}
use mathlib.Core.List.{List}
use lib.Ieee.{Float}
use Rattle.meaning.specs.Reply.{refuse, give, first_of}
use Rattle.meaning.proofs.Chains.{chain-refused, chain-passed}
use Rattle.models.specs.Refusals.{spectrum_tests}
use Rattle.search.specs.Beginning.{runs_in, ragged, begin_searches_of}
use Rattle.search.specs.Refusing.{short_runs, search_tests}
use Rattle.models.specs.declared.problems.Problem.{Problem}
use Rattle.search.specs.declared.refusing.Lent.{Lent}

module _ (bins : List ℕ) (p : Problem) (starts : List Float) (lent : Lent) where
  abbrev pub first_test : ℕ
  first_test = first_of (search_tests bins p (runs_in p starts) (ragged p starts) lent)

  pub begun-refused : (n : ℕ) → n ≡ first_test → 0 < n → refuse n ≡ begin_searches_of bins p starts lent
  unfolding begin_searches_of
  begun-refused n e h =
      sym (chain-refused (give (runs_in p starts)) (search_tests bins p (runs_in p starts) (ragged p starts) lent) n e h)

  pub begun-given : 0 ≡ first_test → give (runs_in p starts) ≡ begin_searches_of bins p starts lent
  unfolding begin_searches_of search_tests spectrum_tests short_runs
  begun-given z =
      sym (chain-passed (give (runs_in p starts)) (search_tests bins p (runs_in p starts) (ragged p starts) lent) refl z)
