-- A run table gone through once: each field of the survey is the total, the test or the least that specs/Runs.antt and
-- specs/Surveys.antt have over the table. Assumes nothing.
use Prim.Native.Nat.{ℕ, suc, ◌+◌, ◌≤◌, ◌<◌, zero-le}
use mathlib.Core.Path.{◌≡◌, refl, sym, ap, ◌∙◌}
use mathlib.Core.Bool.{Bool, true, false, cond, ◌||◌}
use native.Mathlib.Omega.{arith}
use native.Mathlib.Numerals.{add-one}
use Rattle.meaning.specs.Fold.{fold}
use Rattle.meaning.proofs.Folds.{fold-none, fold_more, fold-keeps}
use Rattle.fitter.specs.Runs.{point_of, has_wrong_list, has_wrong_cost, sum_of, any_of, at_most, top64, top32}
use Rattle.fitter.specs.Runs.{one_if, iterations_of, capped_of}
use Rattle.fitter.specs.Surveys.{no_survey, lesser, least_step, least_of, count_of, after_point, survey_step, survey_of}
use Rattle.fitter.specs.declared.runs.Run.{Run}
use Rattle.fitter.specs.declared.runs.RunPoint.{RunPoint}
use Rattle.std.specs.Prelude.{Option}
use Rattle.fitter.specs.declared.surveys.Survey.{Survey}
use Rattle.fitter.proofs.Totals.{stopping}

-- ---- one step, by the run's answer
pub point-step : (lent wanted i : ℕ) (run : Run) (s counted : Survey) (p q : Option RunPoint) → counted ≡ count_of run s
    → p ≡ point_of run → p ≡ q → after_point lent wanted i run q counted ≡ survey_step lent wanted i run s
unfolding survey_step
point-step lent wanted i run s counted p q e f g =
    ap (λ (z : Survey). after_point lent wanted i run q z) e
    ∙ ap (λ (o : Option RunPoint). after_point lent wanted i run o (count_of run s)) (sym g ∙ f)

-- ---- a fold's field is the field's fold
pub fold-field : {S A : Type 0} (g : S → A) (f : ℕ → S → S) (h : ℕ → A → A) (n : ℕ) (z : S)
    → ((i : ℕ) (s : S) → g (f i s) ≡ h i (g s)) → g (fold f 0 n z) ≡ fold h 0 n (g z)
fold-field {S} g f h n z e =
    fold-keeps f (λ (k : ℕ) (s : S). g s ≡ fold h 0 k (g z)) 0 n z zero-le
    (λ (k : ℕ) (s : S) (l : 0 ≤ k) (m : k < n) (p : g s ≡ fold h 0 k (g z)).
    e k s ∙ ap (h k) p ∙ sym (ap (λ (j : ℕ). fold h 0 j (g z)) (sym (add-one k)) ∙ fold_more h 0 k (g z) l))
    (sym (fold-none h 0 0 (g z) zero-le))

-- ---- one step, field by field: by whether the run converged
or-false : (b : Bool) → b ≡ (b || false)
or-false true = refl
or-false false = refl

module _ (lent wanted i : ℕ) (run : Run) (s : Survey) where
  abbrev next : Survey
  next = survey_step lent wanted i run s

  step-wrong : (c : Bool) → run.converged ≡ c → next.wrong ≡ (s.wrong || has_wrong_list lent wanted run)
  unfolding survey_step has_wrong_list
  step-wrong true e = rw e
  step-wrong false e = rw e (or-false s.wrong)

  step-bad : (c : Bool) → run.converged ≡ c → next.bad ≡ (s.bad || has_wrong_cost run)
  unfolding survey_step has_wrong_cost
  step-bad true e = rw e
  step-bad false e = rw e (or-false s.bad)

  step-iterations : (c : Bool) → run.converged ≡ c → next.iterations ≡ at_most top64 (s.iterations + run.iterations)
  unfolding survey_step
  step-iterations true e = rw e
  step-iterations false e = rw e

  step-capped : (c : Bool) → run.converged ≡ c → next.capped ≡ at_most top32 (s.capped + one_if run.hit_cap)
  unfolding survey_step
  step-capped true e = rw e
  step-capped false e = rw e

  step-least : (c : Bool) → run.converged ≡ c
      → next.least ≡ cond run.converged (lesser run.cost i run s.least) s.least
  unfolding survey_step
  step-least true e = rw e
  step-least false e = rw e

-- ---- the whole table
module _ (lent wanted : ℕ) (at : ℕ → Run) (n : ℕ) where
  abbrev step : ℕ → Survey → Survey
  step i s = survey_step lent wanted i (at i) s

  pub survey-wrong : (survey_of lent wanted at n).wrong ≡ any_of (λ (i : ℕ). has_wrong_list lent wanted (at i)) n
  unfolding survey_of any_of
  survey-wrong =
      fold-field (λ (s : Survey). s.wrong) step
      (λ (i : ℕ) (so : Bool). so || has_wrong_list lent wanted (at i)) n no_survey
      (λ (i : ℕ) (s : Survey). step-wrong lent wanted i (at i) s (at i).converged refl)

  pub survey-bad : (survey_of lent wanted at n).bad ≡ any_of (λ (i : ℕ). has_wrong_cost (at i)) n
  unfolding survey_of any_of
  survey-bad =
      fold-field (λ (s : Survey). s.bad) step (λ (i : ℕ) (so : Bool). so || has_wrong_cost (at i)) n no_survey
      (λ (i : ℕ) (s : Survey). step-bad lent wanted i (at i) s (at i).converged refl)

  pub survey-iterations : (survey_of lent wanted at n).iterations ≡ iterations_of at n
  unfolding survey_of iterations_of
  survey-iterations =
      fold-field (λ (s : Survey). s.iterations) step (λ (i total : ℕ). at_most top64 (total + (at i).iterations)) n
      no_survey (λ (i : ℕ) (s : Survey). step-iterations lent wanted i (at i) s (at i).converged refl)
      ∙ stopping top64 (λ (i : ℕ). (at i).iterations) n

  pub survey-capped : (survey_of lent wanted at n).capped ≡ at_most top32 (capped_of at n)
  unfolding survey_of capped_of
  survey-capped =
      fold-field (λ (s : Survey). s.capped) step (λ (i total : ℕ). at_most top32 (total + one_if (at i).hit_cap)) n
      no_survey (λ (i : ℕ) (s : Survey). step-capped lent wanted i (at i) s (at i).converged refl)
      ∙ stopping top32 (λ (i : ℕ). one_if (at i).hit_cap) n

  pub survey-least : (survey_of lent wanted at n).least ≡ least_of at (λ (run : Run). run.converged) n
  unfolding survey_of least_of least_step
  survey-least =
      fold-field (λ (s : Survey). s.least) step (least_step at (λ (run : Run). run.converged)) n no_survey
      (λ (i : ℕ) (s : Survey). step-least lent wanted i (at i) s (at i).converged refl)

-- as many runs as a table may have can't stop the count of the capped ones
pub capped-few : (at : ℕ → Run) (n : ℕ) → capped_of at n ≤ n
unfolding capped_of sum_of
capped-few at n =
    fold-keeps (λ (i total : ℕ). total + one_if (at i).hit_cap) (λ (k total : ℕ). total ≤ k) 0 n 0 zero-le
    (λ (k total : ℕ) (l : 0 ≤ k) (m : k < n) (p : total ≤ k). more total k (at k).hit_cap p) zero-le
  where
    more : (t k : ℕ) (b : Bool) → t ≤ k → t + one_if b ≤ suc k
    more t k true p = omega arith
    more t k false p = omega arith
