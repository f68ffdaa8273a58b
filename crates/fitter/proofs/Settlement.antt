-- What an attempt is settled to, and its answer, by the tests that the code makes. Assumes nothing.
use Prim.Native.Nat.{ℕ, ◌<◌}
use mathlib.Core.Path.{◌≡◌, refl, sym, ap, ◌∙◌}
use mathlib.Core.Bool.{Bool, true, false, cond, false≢true}
use mathlib.Core.List.{List, [], ◌∷◌}
use lib.Ieee.{Float}
use Rattle.meaning.specs.Onward.{number_said}
use Rattle.meaning.specs.Reply.{Reply, refuse, give, Test, test, chain, first_of}
use Rattle.meaning.proofs.Chains.{chain-refused, chain-passed}
use Rattle.fitter.specs.Attempting.{survey_tests}
use Rattle.fitter.specs.Retrying.{held_of}
use Rattle.fitter.specs.Settling.{unheld_by, held_by, settle_of, kept_attempt, finish_of}
use Rattle.fitter.specs.Turns.{unsettled_in}
use Rattle.fitter.specs.declared.settling.Settled.{Settled}
use Rattle.models.specs.declared.problems.Problem.{Problem}
use Rattle.fitter.specs.declared.surveys.Survey.{Survey}
use Rattle.fitter.proofs.Cleared.{setup-numbered}

module _ (bins : List ℕ) (setup : Problem) (runs : ℕ) (survey : Survey) (lists : List Float) (room number : ℕ)
    (e : number ≡ first_of (survey_tests bins setup runs survey room)) where
  abbrev so : Reply Settled
  so = settle_of bins setup runs survey lists room

  pub settled-refused : 0 < number → refuse number ≡ so
  unfolding settle_of
  settled-refused h = sym (chain-refused _ (survey_tests bins setup runs survey room) number e h)

  passed : (s : Settled) → number ≡ 0 → give s ≡ chain (survey_tests bins setup runs survey room) (give s)
  passed s z =
      sym (chain-passed (give s) (survey_tests bins setup runs survey room) (setup-numbered bins setup runs _ _ room) (sym z ∙ e))

  pub settled-none : number ≡ 0 → survey.least.run.converged ≡ false → give (unheld_by setup) ≡ so
  unfolding settle_of
  settled-none h c =
      passed (unheld_by setup) h
      ∙ ap (λ (b : Bool). chain (survey_tests bins setup runs survey room)
      (give (cond b (held_by setup (held_of bins setup lists room survey.least)) (unheld_by setup)))) (sym c)

  pub settled-some : number ≡ 0 → survey.least.run.converged ≡ true
      → give (held_by setup (held_of bins setup lists room survey.least)) ≡ so
  unfolding settle_of
  settled-some h c =
      passed (held_by setup (held_of bins setup lists room survey.least)) h
      ∙ ap (λ (b : Bool). chain (survey_tests bins setup runs survey room)
      (give (cond b (held_by setup (held_of bins setup lists room survey.least)) (unheld_by setup)))) (sym c)

module _ (survey : Survey) (s : Settled) where
  pub finished-kept : s.held.best.run.converged ≡ true → kept_attempt s.setup survey s.held ≡ finish_of survey s
  unfolding finish_of
  finished-kept c = rw c

-- a chain that is unsettled refuses nothing
unsettled-number : (ts : List Test) (s : Settled) → unsettled_in (chain ts (give s)) ≡ true
    → number_said (chain ts (give s)) ≡ 0
unsettled-number [] s h = refl
unsettled-number (test true n ∷ ts) s h = absurd (false≢true h)
unsettled-number (test false n ∷ ts) s h = unsettled-number ts s h

pub unsettled-is : (bins : List ℕ) (setup : Problem) (runs : ℕ) (survey : Survey) (lists : List Float) (room : ℕ)
    → let s = settle_of bins setup runs survey lists room in
    unsettled_in s ≡ true → number_said s ≡ 0
unfolding settle_of
unsettled-is bins setup runs survey lists room h = unsettled-number (survey_tests bins setup runs survey room) _ h
