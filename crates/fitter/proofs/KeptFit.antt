-- An attempt's candidate is what `unpack` answers for the list of the run that is kept, with that run's cost and
-- iterations and whatever table is lent, if it is long enough; what speaks against it is what `validate_fit` says of it;
-- and where there is no candidate no run converged. Of every run table, out of the answer alone. Assumes nothing.
use Prim.Native.Nat.{ℕ, ◌<◌}
use mathlib.Core.Path.{◌≡◌, refl, sym, ap, ◌∙◌, subst}
use mathlib.Core.Bool.{Bool, true, false, cond, true≢false}
use mathlib.Core.List.{List}
use lib.ListN.{length}
use lib.Ieee.{Float}
use Rattle.meaning.specs.Reply.{give, Test, first_of}
use Rattle.meaning.proofs.Chains.{gave-passed}
use Rattle.meaning.proofs.Replies.{gave-answer}
use Rattle.models.specs.Families.{list_length_of}
use Rattle.fitter.specs.Attempting.{attempt_tests, candidate_of, attempt_from}
use Rattle.fitter.specs.Attempts.{attempt_of, candidate_in}
use Rattle.fitter.specs.Candidates.{RunFit, FromRun}
use Rattle.fitter.specs.Judging.{judged_fit_of, valid_run, kept_best}
use Rattle.fitter.specs.Kept.{KeptRun, is_valid, is_rejected, is_missing}
use Rattle.fitter.specs.Runs.{has_wrong_list, has_wrong_cost, any_of, iterations_of, capped_of}
use Rattle.fitter.specs.declared.attempts.FitAttempt.{FitAttempt}
use Rattle.fitter.specs.declared.judging.JudgedFit.{JudgedFit}
use Rattle.fitter.specs.declared.rejections.FitRejection.TheVariants as reason
use Rattle.fitter.specs.declared.runs.Run.{Run}
use Rattle.models.specs.declared.problems.Problem.{Problem}
use Rattle.fitter.specs.declared.surveys.Best.{Best}
use Rattle.fitter.proofs.Attempted.{any_none, good}
use Rattle.fitter.proofs.Cleared.{Clear, clear}
use Rattle.fitter.proofs.Keeping.{valid-converged}
use Rattle.fitter.proofs.KeptRuns.{kept_run}
use Rattle.fitter.proofs.RunFits.{run-fit}
use Rattle.std.specs.Prelude.{None, Some, is_some}

-- of two attempts, the one that has a candidate and the one that has none
which : (c b : Bool) (x y : FitAttempt) → is_some x.candidate ≡ true → is_some y.candidate ≡ false
    → is_some (cond c x y).candidate ≡ b → c ≡ b
which true b x y p q e = sym p ∙ e
which false b x y p q e = sym q ∙ e

module _ (bins : List ℕ) (setup : Problem) (lists : List Float) (room : ℕ) (at : ℕ → Run) (n : ℕ) (attempt : FitAttempt)
    (gave : attempt_from bins setup lists room at n ≡ give attempt) where
  abbrev wanted : ℕ
  wanted = list_length_of setup.error setup.genome

  abbrev tests : List Test
  tests = attempt_tests bins setup lists room at n

  abbrev kept : Best
  kept = kept_best bins setup lists room at n

  abbrev judged : Run → JudgedFit
  judged = judged_fit_of bins setup lists room

  attempt-is : candidate_of bins setup lists room at n kept ≡ attempt
  unfolding attempt_from
  attempt-is = gave-answer (candidate_of bins setup lists room at n kept) attempt tests gave

  none-holds : 0 ≡ first_of tests
  unfolding attempt_from
  none-holds = gave-passed (candidate_of bins setup lists room at n kept) attempt tests gave

  all-clear : Clear bins setup n (any_of (λ (i : ℕ). has_wrong_list (length lists) wanted (at i)) n)
      (any_of (λ (i : ℕ). has_wrong_cost (at i)) n) room
  all-clear = clear bins setup n _ _ room none-holds

  right : (i : ℕ) → i < n → has_wrong_list (length lists) wanted (at i) ≡ false
  right = any_none (λ (i : ℕ). has_wrong_list (length lists) wanted (at i)) n all-clear.right

  -- which run is kept
  pub which-kept : KeptRun at (valid_run bins setup lists room) n kept
  which-kept = kept_run bins setup lists room at n (good bins setup lists room at n none-holds)

  -- what each converged run is judged by
  pub each-judged : (i : ℕ) → i < n → (at i).converged ≡ true
      → RunFit bins setup lists (at i) (judged (at i)).fit (judged (at i)).rejection
  each-judged i l c = run-fit bins setup n _ _ room all-clear lists (at i) c (right i l)

  abbrev with-run : FitAttempt
  with-run =
      attempt_of setup.error setup.genome (Some (judged kept.run).fit) (judged kept.run).rejection
      (iterations_of at n) (capped_of at n)

  abbrev without-run : FitAttempt
  without-run =
      attempt_of setup.error setup.genome None (Some reason.OptimisationFailed) (iterations_of at n)
      (capped_of at n)

  converged-is : (b : Bool) → is_some attempt.candidate ≡ b → kept.run.converged ≡ b
  converged-is b h =
      which kept.run.converged b with-run without-run refl refl
      (ap (λ (a : FitAttempt). is_some a.candidate) attempt-is ∙ h)

  by-converged : (b : Bool) → kept.run.converged ≡ b → cond b with-run without-run ≡ attempt
  by-converged b e = ap (λ (c : Bool). cond c with-run without-run) (sym e) ∙ attempt-is

  -- ---- THE THEOREM
  pub kept-fit : is_some attempt.candidate ≡ true → FromRun bins setup lists at n kept attempt
  kept-fit h =
      let c = converged-is true h in
      let (below, there) = place c which-kept in
      record {
        below = below;
        there = there;
        converged = c;
        fits =
            subst (λ (a : FitAttempt). RunFit bins setup lists kept.run (candidate_in a) a.rejection)
            (by-converged true c)
            (run-fit bins setup n _ _ room all-clear lists kept.run c
            (subst (λ (r : Run). has_wrong_list (length lists) wanted r ≡ false) (sym there)
            (right kept.position below)));
      }
    where
      place : kept.run.converged ≡ true → KeptRun at (valid_run bins setup lists room) n kept
          → (kept.position < n) × (kept.run ≡ at kept.position)
      place c (is_valid f) = (f.below, f.there)
      place c (is_rejected none f) = (f.below, f.there)
      place c (is_missing none e) = absurd (true≢false (sym c ∙ ap (λ (b : Best). b.run.converged) e))

  -- ---- and where there is no candidate
  pub no-candidate : is_some attempt.candidate ≡ false
      → ((i : ℕ) → i < n → (at i).converged ≡ false) × (attempt.rejection ≡ Some reason.OptimisationFailed)
  no-candidate h =
      let c = converged-is false h in
      (none c which-kept, ap (λ (a : FitAttempt). a.rejection) (sym (by-converged false c)))
    where
      none : kept.run.converged ≡ false → KeptRun at (valid_run bins setup lists room) n kept
          → (i : ℕ) → i < n → (at i).converged ≡ false
      none c (is_valid f) = absurd (true≢false (sym (valid-converged bins setup lists room kept.run f.holds) ∙ c))
      none c (is_rejected other f) = absurd (true≢false (sym f.holds ∙ c))
      none c (is_missing other e) = other

-- ---- of the call's answer
module _ (bins : List ℕ) (setup : Problem) (lists : List Float) (room : ℕ) (at : ℕ → Run) (n : ℕ) where
  pub answer-fit : (answer : FitAttempt) → attempt_from bins setup lists room at n ≡ give answer
      → is_some answer.candidate ≡ true → FromRun bins setup lists at n (kept_best bins setup lists room at n) answer
  answer-fit answer gave h = kept-fit bins setup lists room at n answer gave h
