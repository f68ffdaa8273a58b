-- THE THEOREM: two passes over the run table come to the attempt that specs/Attempting.antt defines, over any table.
-- Assumes nothing.
use Prim.Native.Nat.{ℕ, ◌+◌, ◌≤◌, ◌<◌, zero-le}
use mathlib.Core.Path.{◌≡◌, refl, sym, ap, ◌∙◌}
use mathlib.Core.Bool.{Bool, true, false, not, cond, ◌&&◌, ◌||◌, true≢false}
use mathlib.Core.List.{List, [], ◌∷◌}
use native.Mathlib.Omega.{arith}
use lib.ListN.{length}
use lib.Ieee.{Float}
use Rattle.meaning.specs.Fold.{fold}
use Rattle.meaning.specs.Onward.{onward}
use Rattle.meaning.specs.Reply.{Reply, give, Test, test, chain, first_of}
use Rattle.meaning.specs.Rows.{most, in_order, below_two, above_most}
use Rattle.meaning.proofs.Chains.{numbered, goes_on}
use Rattle.meaning.proofs.Folds.{fold_more, fold-split, fold-keeps}
use Rattle.models.specs.Refusals.{spectrum_tests, short_table}
use Rattle.fitter.specs.Attempts.{unrejected}
use Rattle.fitter.specs.Validation.{outside_limit}
use Rattle.fitter.specs.Attempting.{wrong_lists, wrong_costs, setup_tests, survey_tests, wanted, attempt_tests}
use Rattle.fitter.specs.Attempting.{candidate_of, attempt_from}
use Rattle.fitter.specs.Judging.{judged_fit_of, kept_best}
use Rattle.fitter.specs.Retrying.{held_of, retried_of}
use Rattle.fitter.specs.Runs.{bad_cost, has_wrong_cost, any_of, top32, iterations_of, capped_of}
use Rattle.fitter.specs.Settling.{no_held, unheld_by, held_by, settle_of, with_held}
use Rattle.fitter.specs.Settling.{failed_attempt, kept_attempt, finish_of}
use Rattle.fitter.specs.Settling.{surveyed, again, answered_of}
use Rattle.fitter.specs.Surveys.{least_of}
use Rattle.fitter.specs.declared.judging.Held.{Held}
use Rattle.fitter.specs.declared.runs.Run.{Run}
use Rattle.fitter.specs.declared.attempts.FitAttempt.{FitAttempt}
use Rattle.fitter.specs.declared.settling.Settled.{Settled}
use Rattle.models.specs.declared.problems.Problem.{Problem}
use Rattle.fitter.specs.declared.surveys.Best.{Best}
use Rattle.fitter.specs.declared.surveys.Survey.{Survey}
use Rattle.fitter.proofs.Cleared.{clear}
use Rattle.fitter.proofs.Totals.{within}
use Rattle.fitter.proofs.Surveyed.{survey-wrong, survey-bad, survey-iterations, survey-capped, survey-least}
use Rattle.fitter.proofs.Surveyed.{capped-few}
use Rattle.fitter.proofs.Settlement.{finished-kept}
use Rattle.fitter.proofs.Keeping.{kept-none, kept-least, kept-converged, kept-retried}

-- ---- what holds where nothing is refused
module _ (bins : List ℕ) (setup : Problem) (n : ℕ) (wrong bad : Bool) (room : ℕ) where
  abbrev tests : List Test
  tests = setup_tests bins setup n wrong bad room

  abbrev from-limit : List (List Test)
  from-limit = outside_limit setup.mass_limit ∷ short_table setup.genome setup.window_end room ∷ []

  abbrev from_wrong : List (List Test)
  from_wrong = wrong_lists wrong ∷ wrong_costs bad ∷ from-limit

  abbrev spectrum : List Test
  spectrum = spectrum_tests bins setup.scale setup.window_end

  abbrev lows : List ℕ
  lows = setup.peak ∷ setup.valley ∷ length bins ∷ []

  abbrev highs : List ℕ
  highs = length bins ∷ setup.peak ∷ setup.valley ∷ setup.window_end ∷ n ∷ []

  spectrum-numbered : numbered spectrum ≡ true
  unfolding spectrum_tests
  spectrum-numbered = refl

  -- peak, window end and the number of runs are in their limits
  pub in-limits : 0 ≡ first_of tests → (setup.peak ≤ most) × (setup.window_end ≤ most) × (n ≤ most)
  in-limits z =
      let l = (clear bins setup n wrong bad room z).limits in
      (l.1.0, l.1.1.1.0, l.1.1.1.1.0)

  -- 7 of any run comes before 9 of any other, and before the limit's
  pub seven-first : 0 ≡ first_of (below_two lows) → 0 ≡ first_of (above_most highs) → 0 ≡ first_of spectrum → wrong ≡ true
      → 7 ≡ first_of tests
  unfolding setup_tests
  seven-first l h s w =
      goes_on (below_two lows) (in_order (above_most highs ∷ spectrum ∷ from_wrong)) refl l 7
      (goes_on (above_most highs) (in_order (spectrum ∷ from_wrong)) refl h 7
      (goes_on spectrum (in_order from_wrong) spectrum-numbered s 7 (rw w)))

-- ---- where no run has a property, none has it
pub any_none : (p : ℕ → Bool) (n : ℕ) → any_of p n ≡ false → (i : ℕ) → i < n → p i ≡ false
unfolding any_of
any_none p n h i l = go (p i) refl
  where
    or : ℕ → Bool → Bool
    or k so = so || p k

    or-true : (b : Bool) → (b || true) ≡ true
    or-true true = refl
    or-true false = refl

    found : p i ≡ true → fold or 0 n false ≡ true
    found e =
        fold-split or 0 (i + 1) n false zero-le (omega arith)
        ∙ ap (fold or (i + 1) n)
        (fold_more or 0 i false zero-le ∙ ap (λ (b : Bool). fold or 0 i false || b) e ∙ or-true (fold or 0 i false))
        ∙ fold-keeps or (λ (k : ℕ) (x : Bool). x ≡ true) (i + 1) n true (omega arith)
        (λ (k : ℕ) (x : Bool) (a : i + 1 ≤ k) (b : k < n) (w : x ≡ true). ap (λ (y : Bool). y || p k) w) refl

    go : (b : Bool) → p i ≡ b → b ≡ false
    go true e = absurd (true≢false (sym (found e) ∙ h))
    go false e = refl

good-cost : (run : Run) → has_wrong_cost run ≡ false → run.converged ≡ true → bad_cost run.cost ≡ false
unfolding has_wrong_cost
good-cost run h e = sym (ap (λ (b : Bool). b && bad_cost run.cost) e) ∙ h

module _ (bins : List ℕ) (setup : Problem) (lists : List Float) (room : ℕ) (at : ℕ → Run) (n : ℕ) where
  abbrev survey : Survey
  survey = surveyed bins setup lists room at n

  abbrev all : List Test
  all = attempt_tests bins setup lists room at n

  abbrev kept : Best
  kept = kept_best bins setup lists room at n

  abbrev least : Best
  least = least_of at (λ (run : Run). run.converged) n

  abbrev answer : Reply FitAttempt
  answer = attempt_from bins setup lists room at n

  tests_same : survey_tests bins setup n survey room ≡ all
  tests_same j =
      setup_tests bins setup n (survey-wrong (length lists) (wanted bins setup lists room at n) at n j)
      (survey-bad (length lists) (wanted bins setup lists room at n) at n j) room

  least-is : survey.least ≡ least
  least-is = survey-least (length lists) (wanted bins setup lists room at n) at n

  -- ---- not refused
  module _ (z : 0 ≡ first_of all) where
    pub good : (i : ℕ) → i < n → (at i).converged ≡ true → bad_cost (at i).cost ≡ false
    good i l e =
        good-cost (at i) (any_none (λ (k : ℕ). has_wrong_cost (at k)) n (clear bins setup n _ _ room z).good i l) e

    runs-few : n ≤ most
    runs-few = (in-limits bins setup n _ _ room z).2

    iterations-are : survey.iterations ≡ iterations_of at n
    iterations-are = survey-iterations (length lists) (wanted bins setup lists room at n) at n

    capped-are : survey.capped ≡ capped_of at n
    capped-are =
        let l : capped_of at n ≤ n = capped-few at n in
        let m : n ≤ most = runs-few in
        survey-capped (length lists) (wanted bins setup lists room at n) at n
        ∙ sym (within top32 (capped_of at n) (omega arith))

    failed-same : least.run.converged ≡ false
        → failed_attempt setup survey ≡ candidate_of bins setup lists room at n kept
    failed-same e = rw (kept-none bins setup lists room at n good e, e, iterations-are, capped-are)

    kept_same : least.run.converged ≡ true
        → kept_attempt setup survey (held_of bins setup lists room kept)
        ≡ candidate_of bins setup lists room at n kept
    kept_same e = rw (kept-converged bins setup lists room at n good e, iterations-are, capped-are)

    abbrev lowest : Settled
    lowest = held_by setup (held_of bins setup lists room least)

    abbrev retried : Held
    retried = retried_of bins setup lists room at n (held_of bins setup lists room least)

    again-is : (b : Bool) → unrejected (judged_fit_of bins setup lists room least.run).rejection ≡ b
        → again bins setup lists room at n lowest ≡ cond (not b) (with_held lowest retried) lowest
    again-is b f = ap (λ (c : Bool). cond (not c) (with_held lowest retried) lowest) f

    by-judgement : (b : Bool) → least.run.converged ≡ true
        → unrejected (judged_fit_of bins setup lists room least.run).rejection ≡ b
        → finish_of survey (again bins setup lists room at n lowest)
        ≡ kept_attempt setup survey (held_of bins setup lists room kept)
    by-judgement true e f =
        ap (finish_of survey) (again-is true f)
        ∙ sym (finished-kept survey lowest e)
        ∙ ap (λ (b : Best). kept_attempt setup survey (held_of bins setup lists room b))
        (sym (kept-least bins setup lists room at n good e f))
    by-judgement false e f =
        let h = kept-retried bins setup lists room at n good f in
        ap (finish_of survey) (again-is false f ∙ ap (with_held lowest) h)
        ∙ sym
        (finished-kept survey (with_held lowest (held_of bins setup lists room kept))
        (kept-converged bins setup lists room at n good e))

    -- what nothing is refused of, settled
    abbrev settled-as : Bool → Best → Settled
    settled-as c best = cond c (held_by setup (held_of bins setup lists room best)) (unheld_by setup)

    passed-same : (c : Bool) → least.run.converged ≡ c
        → finish_of survey (again bins setup lists room at n (settled-as c least))
        ≡ candidate_of bins setup lists room at n kept
    passed-same true e =
        by-judgement (unrejected (judged_fit_of bins setup lists room least.run).rejection) e refl ∙ kept_same e
    passed-same false e = unfold finish_of no_held in failed-same e

    same : finish_of survey (again bins setup lists room at n (settled-as survey.least.run.converged survey.least))
        ≡ candidate_of bins setup lists room at n kept
    same =
        ap (λ (b : Best). finish_of survey (again bins setup lists room at n (settled-as b.run.converged b))) least-is
        ∙ passed-same least.run.converged refl

  -- of two chains of the same tests
  onward-chain : {A B : Type 0} (f : A → B) (ts : List Test) (a : A) → onward f (chain ts (give a)) ≡ chain ts (give (f a))
  onward-chain f [] a = refl
  onward-chain f (test true k ∷ ts) a = refl
  onward-chain f (test false k ∷ ts) a = onward-chain f ts a

  chain-same : {A : Type 0} (ts : List Test) (a b : A) → (0 ≡ first_of ts → a ≡ b) → chain ts (give a) ≡ chain ts (give b)
  chain-same [] a b h = ap give (h refl)
  chain-same (test true k ∷ ts) a b h = refl
  chain-same (test false k ∷ ts) a b h = chain-same ts a b h

  pub answered : answered_of bins setup lists room at n ≡ answer
  unfolding answered_of settle_of attempt_from
  answered =
      onward-chain (λ (s : Settled). finish_of survey (again bins setup lists room at n s))
      (survey_tests bins setup n survey room) _
      ∙ ap (λ (ts : List Test). chain ts (give
      (finish_of survey
      (again bins setup lists room at n
      (cond survey.least.run.converged (held_by setup (held_of bins setup lists room survey.least)) (unheld_by setup))))))
      tests_same
      ∙ chain-same all _ _ same
