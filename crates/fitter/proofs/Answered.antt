-- What the code goes through in its two passes is the attempt: by whether the first pass settled it. Assumes nothing.
use Prim.Native.Nat.{ℕ}
use mathlib.Core.Path.{◌≡◌, refl, sym, ap, ◌∙◌, subst}
use mathlib.Core.Bool.{true, false, cond, false≢true}
use mathlib.Core.List.{List}
use lib.ListN.{length, drop}
use lib.Ieee.{Float}
use Rattle.meaning.specs.Onward.{onward, number_said}
use Rattle.meaning.specs.Reply.{Reply, refuse, broken, give}
use Rattle.models.specs.Families.{list_length_of}
use Rattle.fitter.specs.Attempting.{attempt_from, stands_from}
use Rattle.fitter.specs.Retrying.{table_from, retried_of}
use Rattle.fitter.specs.Settling.{no_held, settle_of, with_held, finish_of, surveyed, settled, again, answered_of}
use Rattle.fitter.specs.Surveys.{survey_of}
use Rattle.fitter.specs.Turns.{unsettled_in}
use Rattle.fitter.specs.declared.attempts.FitAttempt.{FitAttempt}
use Rattle.fitter.specs.declared.judging.Held.{Held}
use Rattle.fitter.specs.declared.runs.Run.{Run}
use Rattle.fitter.specs.declared.settling.Settled.{Settled}
use Rattle.models.specs.declared.problems.Problem.{Problem}
use Rattle.fitter.specs.declared.surveys.Survey.{Survey}
use Rattle.fitter.proofs.Attempted.{answered}
use Rattle.fitter.proofs.Settlement.{unsettled-is}

-- the run that is held, and a reply with another one
abbrev pub held_in : Reply Settled → Held
held_in (refuse n) = no_held
held_in (broken place) = no_held
held_in (give s) = s.held

abbrev pub with_in : Reply Settled → Held → Reply Settled
with_in r held = onward (λ (s : Settled). with_held s held) r

pub onward-number : {A B : Type 0} (f : A → B) (r : Reply A) → number_said (onward f r) ≡ number_said r
onward-number f (refuse n) = refl
onward-number f (broken place) = refl
onward-number f (give a) = refl

pub held-with : (r : Reply Settled) (held : Held) (f : Held → Held)
    → onward (λ (s : Settled). with_held s (f s.held)) (with_in r held) ≡ with_in r (f held)
held-with (refuse n) held f = refl
held-with (broken place) held f = refl
held-with (give s) held f = refl

pub held-same : (r : Reply Settled) → with_in r (held_in r) ≡ r
held-same (refuse n) = refl
held-same (broken place) = refl
held-same (give s) = refl

module _ (bins : List ℕ) (setup : Problem) (lists : List Float) (room : ℕ) (at : ℕ → Run) (n : ℕ) where
  abbrev answer : Reply FitAttempt
  answer = attempt_from bins setup lists room at n

  -- ---- the survey and what it is settled to, by the answers of the code's own calls
  pub survey-is : (wanted : ℕ) (survey : Survey) → wanted ≡ list_length_of setup.error setup.genome
      → survey ≡ survey_of (length lists) wanted at n → survey ≡ surveyed bins setup lists room at n
  survey-is wanted survey e f = f ∙ ap (λ (w : ℕ). survey_of (length lists) w at n) e

  pub settled_is : (count : ℕ) (survey : Survey) (s : Reply Settled) → count ≡ n
      → survey ≡ surveyed bins setup lists room at n
      → s ≡ settle_of bins setup count survey lists room → s ≡ settled bins setup lists room at n
  settled_is count survey s e f g = g ∙ (λ j. settle_of bins setup (e j) (f j) lists room)

  module _ (survey : Survey) (s : Reply Settled) (e : survey ≡ surveyed bins setup lists room at n)
      (f : s ≡ settled bins setup lists room at n) where
    abbrev ended : Reply Settled → Reply FitAttempt
    ended r = onward (λ (x : Settled). finish_of (surveyed bins setup lists room at n) (again bins setup lists room at n x)) r

    -- ---- one pass
    stays : (r : Reply Settled) → unsettled_in r ≡ false
        → onward (finish_of (surveyed bins setup lists room at n)) r ≡ ended r
    stays (refuse k) u = refl
    stays (broken place) u = refl
    stays (give x) u =
        ap
        (λ b. give
        (finish_of (surveyed bins setup lists room at n)
        (cond b (with_held x (retried_of bins setup lists room at n x.held)) x)))
        (sym u)

    pub one-pass : unsettled_in s ≡ false → onward (finish_of survey) s ≡ answer
    unfolding answered_of
    one-pass u =
        ap (λ (v : Survey). onward (finish_of v) s) e
        ∙ stays s u ∙ ap ended f
        ∙ answered bins setup lists room at n

    -- ---- two
    goes : (r : Reply Settled) → unsettled_in r ≡ true
        → onward (finish_of (surveyed bins setup lists room at n)) (with_in r (retried_of bins setup lists room at n (held_in r)))
        ≡ ended r
    goes (refuse k) u = absurd (false≢true u)
    goes (broken place) u = absurd (false≢true u)
    goes (give x) u =
        ap
        (λ b. give
        (finish_of (surveyed bins setup lists room at n)
        (cond b (with_held x (retried_of bins setup lists room at n x.held)) x)))
        (sym u)

    pub two-passes : (held : Held) → unsettled_in s ≡ true → held ≡ retried_of bins setup lists room at n (held_in s)
        → onward (finish_of survey) (with_in s held) ≡ answer
    unfolding answered_of
    two-passes held u h =
        (λ j. onward (finish_of (e j)) (with_in s (h j)))
        ∙ goes s u ∙ ap ended f
        ∙ answered bins setup lists room at n

    -- ---- the shelf's table
    module _ (before middle : List Float)
        (first : drop (stands_from setup (number_said s)) middle ≡ drop (stands_from setup (number_said s)) before) where
      pub one-stands : (r : Reply FitAttempt) → r ≡ onward (finish_of survey) s
          → drop (stands_from setup (number_said r)) middle ≡ drop (stands_from setup (number_said r)) before
      one-stands r g =
          subst (λ (k : ℕ). drop (stands_from setup k) middle ≡ drop (stands_from setup k) before)
          (sym (ap number_said g ∙ onward-number (finish_of survey) s)) first

      pub two-stand : (after : List Float) (held : Held) (r : Reply FitAttempt)
          → r ≡ onward (finish_of survey) (with_in s held) → unsettled_in s ≡ true
          → drop (table_from setup) after ≡ drop (table_from setup) middle
          → drop (stands_from setup (number_said r)) after ≡ drop (stands_from setup (number_said r)) before
      two-stand after held r g u second =
          let is = unsettled-is bins setup n (surveyed bins setup lists room at n) lists room
          (sym (ap unsettled_in f) ∙ u) in
          let zero : number_said s ≡ 0 = ap number_said f ∙ is in
          let number : number_said r ≡ 0 =
          ap number_said g ∙ onward-number (finish_of survey) (with_in s held)
          ∙ onward-number (λ (x : Settled). with_held x held) s ∙ zero in
          subst (λ (k : ℕ). drop (stands_from setup k) after ≡ drop (stands_from setup k) before) (sym number)
          (second
          ∙ subst (λ (k : ℕ). drop (stands_from setup k) middle ≡ drop (stands_from setup k) before) zero first)
