-- A lent table has no part in the attempt: two tables of any contents, neither of them refused with 10, get the same
-- answer; and a table that is long enough is not refused with 10. Of every run table. Assumes nothing.
use Prim.Native.Nat.{ℕ}
use mathlib.Core.Path.{◌≡◌, refl, sym, ap, ◌∙◌}
use mathlib.Core.Bool.{Bool, true, false, not, cond, ◌&&◌, false≢true}
use mathlib.Core.List.{List, [], ◌∷◌, ◌++◌}
use borrow.Author.Tests.{le-ltb, eqb-false}
use lib.Dec.{ltb, eqb}
use lib.ListN.{length}
use lib.Ieee.{Float}
use Rattle.meaning.specs.Reply.{Reply, refuse, give, Test, test, chain, first_of}
use Rattle.meaning.specs.Rows.{in_order, below_two, above_most}
use Rattle.meaning.proofs.Replies.{same_number, answer-not-refused}
use Rattle.models.specs.Families.{list_length_of}
use Rattle.models.specs.Refusals.{table_demand, wrong_list, spectrum_tests, fit_tests}
use Rattle.models.specs.Unpacking.{fit_in, unpack_of}
use Rattle.fitter.specs.Attempting.{wrong_lists, wrong_costs, setup_tests, attempt_tests, candidate_of, attempt_from}
use Rattle.fitter.specs.Attempts.{attempt_of, unrejected}
use Rattle.fitter.specs.Candidates.{LongEnough}
use Rattle.fitter.specs.Judging.{rejection_of_judgement, fit_of_run, judged_fit_of, valid_run, kept_best}
use Rattle.fitter.specs.Runs.{list_at, has_wrong_list, has_wrong_cost, any_of, iterations_of, capped_of}
use Rattle.fitter.specs.Surveys.{least_of}
use Rattle.fitter.specs.Validation.{outside_limit, verdict_of}
use Rattle.fitter.specs.declared.attempts.FitAttempt.{FitAttempt}
use Rattle.fitter.specs.declared.judging.JudgedFit.{JudgedFit}
use Rattle.fitter.specs.declared.rejections.FitRejection.TheVariants as reason
use Rattle.fitter.specs.declared.runs.Run.{Run}
use Rattle.models.specs.declared.problems.Problem.{Problem}
use Rattle.fitter.specs.declared.surveys.Best.{Best}
use Rattle.fitter.proofs.Cleared.{clear}
use Rattle.fitter.proofs.RunFits.{whole}
use Rattle.std.specs.Prelude.{None, Some}

-- ---- chains whose last test is that of 10
abbrev ten : Bool → List Test
ten b = test b 10 ∷ []

module _ {A : Type 0} (x y : A) where
  either : (ts : List Test) (b c : Bool) → (0 ≡ first_of (ts ++ ten b) → 0 ≡ first_of (ts ++ ten c) → x ≡ y)
      → (chain (ts ++ ten b) (give x) ≡ refuse 10 → ⊥) → (chain (ts ++ ten c) (give y) ≡ refuse 10 → ⊥)
      → chain (ts ++ ten b) (give x) ≡ chain (ts ++ ten c) (give y)
  either [] true c same h k = absurd (h refl)
  either [] false true same h k = absurd (k refl)
  either [] false false same h k = ap give (same refl refl)
  either (test true n ∷ ts) b c same h k = refl
  either (test false n ∷ ts) b c same h k = either ts b c same h k

-- no test before it has that number
abbrev no-ten : List Test → Bool
no-ten [] = true
no-ten (test b n ∷ ts) = not (eqb n 10) && no-ten ts

module _ {A : Type 0} (x : A) where
  never-ten : (ts : List Test) → no-ten ts ≡ true → chain (ts ++ ten false) (give x) ≡ refuse 10 → ⊥
  never-ten [] p e = answer-not-refused e
  never-ten (test true n ∷ ts) p e = other (eqb n 10) refl p
    where
      other : (b : Bool) → eqb n 10 ≡ b → (not b && no-ten ts) ≡ true → ⊥
      other true f q = false≢true q
      other false f q = eqb-false n 10 f (same_number e)
  never-ten (test false n ∷ ts) p e = never-ten ts (rest (not (eqb n 10)) p) e
    where
      rest : (b : Bool) → (b && no-ten ts) ≡ true → no-ten ts ≡ true
      rest true q = q
      rest false q = absurd (false≢true q)

module _ (bins : List ℕ) (setup : Problem) (lists : List Float) (at : ℕ → Run) (n : ℕ) where
  abbrev wanted : ℕ
  wanted = list_length_of setup.error setup.genome

  abbrev short-of : ℕ → Bool
  short-of room = ltb room (table_demand setup.genome setup.window_end)

  -- the tests of the other numbers: none reads the table's length
  abbrev others : List Test
  others =
      in_order
      (below_two (setup.peak ∷ setup.valley ∷ length bins ∷ [])
      ∷ above_most (length bins ∷ setup.peak ∷ setup.valley ∷ setup.window_end ∷ n ∷ [])
      ∷ spectrum_tests bins setup.scale setup.window_end
      ∷ wrong_lists (any_of (λ (i : ℕ). has_wrong_list (length lists) wanted (at i)) n)
      ∷ wrong_costs (any_of (λ (i : ℕ). has_wrong_cost (at i)) n)
      ∷ outside_limit setup.mass_limit
      ∷ [])

  -- likewise of `unpack`, for a list of this length
  abbrev unpack-others : ℕ → List Test
  unpack-others listed =
      in_order
      (below_two (setup.peak ∷ length bins ∷ [])
      ∷ above_most (length bins ∷ setup.peak ∷ setup.window_end ∷ [])
      ∷ spectrum_tests bins setup.scale setup.window_end
      ∷ wrong_list listed setup.error setup.genome
      ∷ [])

  abbrev candidate : ℕ → FitAttempt
  candidate room = candidate_of bins setup lists room at n (kept_best bins setup lists room at n)

  -- ---- the candidate, by what each run is judged as
  abbrev kept_by : (Run → JudgedFit) → Best
  kept_by judge =
      let best = least_of at (λ (run : Run). run.converged && unrejected (judge run).rejection) n in
      cond best.run.converged best (least_of at (λ (run : Run). run.converged) n)

  abbrev candidate-by : (Run → JudgedFit) → FitAttempt
  candidate-by judge =
      let best = kept_by judge in
      cond best.run.converged
      (attempt_of setup.error setup.genome (Some (judge best.run).fit) (judge best.run).rejection
      (iterations_of at n) (capped_of at n))
      (attempt_of setup.error setup.genome None (Some reason.OptimisationFailed) (iterations_of at n)
      (capped_of at n))

  module _ (room other : ℕ) (z : 0 ≡ first_of (attempt_tests bins setup lists room at n))
      (w : 0 ≡ first_of (attempt_tests bins setup lists other at n)) where
    same-short : short-of room ≡ short-of other
    same-short =
        let demand = table_demand setup.genome setup.window_end in
        le-ltb room demand (clear bins setup n _ _ room z).roomed
        ∙ sym (le-ltb other demand (clear bins setup n _ _ other w).roomed)

    -- whatever the run's list
    same-fit : (run : Run) → fit_of_run bins setup lists room run ≡ fit_of_run bins setup lists other run
    unfolding fit_of_run unpack_of fit_tests spectrum_tests
    same-fit run =
        let list = list_at lists run.place run.length in
        ap (λ (b : Bool).
        fit_in
        (chain (unpack-others (length list) ++ ten b) (give (whole bins setup list run.cost run.iterations)))) same-short

    same-judged : judged_fit_of bins setup lists room ≡ judged_fit_of bins setup lists other
    unfolding judged_fit_of
    same-judged j run = record {
      fit = same-fit run j;
      rejection = rejection_of_judgement (verdict_of (same-fit run j) setup.valley setup.peak setup.mass_limit);
    }

    same-candidate : candidate room ≡ candidate other
    unfolding kept_best valid_run
    same-candidate = ap candidate-by same-judged

  -- ---- THE THEOREM
  abbrev attempt : ℕ → Reply FitAttempt
  attempt room = attempt_from bins setup lists room at n

  pub attempt-of-any-table : (room other : ℕ) → (attempt room ≡ refuse 10 → ⊥) → (attempt other ≡ refuse 10 → ⊥)
      → attempt room ≡ attempt other
  unfolding attempt_from setup_tests spectrum_tests
  attempt-of-any-table room other =
      either (candidate room) (candidate other) others (short-of room) (short-of other) (same-candidate room other)

  pub long-enough : (room : ℕ) → LongEnough setup room → attempt room ≡ refuse 10 → ⊥
  unfolding attempt_from setup_tests spectrum_tests
  long-enough room h e =
      never-ten (candidate room) others refl
      (sym
      (ap (λ (b : Bool). chain (others ++ ten b) (give (candidate room)))
      (le-ltb room (table_demand setup.genome setup.window_end) h))
      ∙ e)
