-- The turns over a run table: what holds from turn to turn, and that behind the last one the answer is the attempt of
-- specs/Attempting.antt. Assumes nothing.
use Prim.Native.Nat.{ℕ, zero, suc, ◌+◌, ◌-◌, ◌≤◌, ◌<◌, zero-le}
use mathlib.Core.Path.{◌≡◌, refl, sym, ap, ◌∙◌, subst}
use mathlib.Core.Bool.{Bool, true, false, cond}
use mathlib.Core.List.{List, [], ◌∷◌}
use native.Mathlib.Omega.{arith}
use borrow.Author.Tests.{lt-ltb, le-ltb, ltb-true, ltb-false, eq-eqb, ne_eqb}
use lib.Dec.{ltb}
use lib.ListN.{length, drop}
use lib.Ieee.{Float}
use Rattle.meaning.specs.Onward.{onward, number_said}
use Rattle.meaning.specs.Reply.{Reply, give, Test, test, chain}
use Rattle.meaning.proofs.Folds.{fold-none, fold_more}
use Rattle.models.specs.Families.{list_length_of}
use Rattle.fitter.specs.Attempting.{survey_tests, attempt_from, stands_from}
use Rattle.fitter.specs.Retrying.{table_from, retry_step, retried_of}
use Rattle.fitter.specs.Settling.{unheld_by, settle_of, with_held, finish_of, surveyed, settled}
use Rattle.fitter.specs.Surveys.{no_survey, survey_step, survey_of}
use Rattle.fitter.specs.Turns.{Turned, unsettled_in, empty_settled, begin_of, second_from, gone_on, settled_to, first_stands}
use Rattle.fitter.specs.Turns.{first_turn, second_turn, turn_of, turn_stands}
use Rattle.fitter.specs.declared.judging.Held.{Held}
use Rattle.fitter.specs.declared.runs.Run.{Run}
use Rattle.fitter.specs.declared.attempts.FitAttempt.{FitAttempt}
use Rattle.fitter.specs.declared.settling.Settled.{Settled}
use Rattle.models.specs.declared.problems.Problem.{Problem}
use Rattle.fitter.specs.declared.surveys.Survey.{Survey}
use Rattle.fitter.proofs.Answered.{held_in, with_in, held-with, held-same, one-pass, two-passes, one-stands, two-stand}
use Rattle.fitter.proofs.Settlement.{unsettled-is}

-- ---- a turn of the first pass, by the answers of its calls
module _ (bins : List ℕ) (setup : Problem) (lists : List Float) (room : ℕ) (run : Run) (t : Turned) where
  abbrev stepped : Survey
  stepped = survey_step (length lists) (list_length_of setup.error setup.genome) t.next run t.survey

  abbrev made : Bool → Turned
  made b = cond b (gone_on stepped t) (settled_to stepped (settle_of bins setup t.runs stepped lists room) t.runs)

  module _ (wanted : ℕ) (survey : Survey) (e : wanted ≡ list_length_of setup.error setup.genome)
      (f : survey ≡ survey_step (length lists) wanted t.next run t.survey) where
    survey-so : survey ≡ stepped
    survey-so = f ∙ ap (λ (w : ℕ). survey_step (length lists) w t.next run t.survey) e

    pub first_on : t.next + 1 < t.runs → gone_on survey t ≡ first_turn bins setup lists room run t
    unfolding first_turn
    first_on l = ap (λ (s : Survey). gone_on s t) survey-so ∙ sym (ap made (lt-ltb (t.next + 1) t.runs l))

    pub first-settled : (next : ℕ) (s : Reply Settled) → t.runs ≤ t.next + 1
        → s ≡ settle_of bins setup t.runs survey lists room → next ≡ second_from (unsettled_in s) t.runs
        → record { next = next; runs = t.runs; surveyed = true; survey = survey; settled = s }
        ≡ first_turn bins setup lists room run t
    unfolding first_turn
    first-settled next s l g h =
        ap (λ (k : ℕ). record { next = k; runs = t.runs; surveyed = true; survey = survey; settled = s }) h
        ∙ ap (λ (x : Reply Settled). settled_to survey x t.runs) g
        ∙ ap (λ (x : Survey). settled_to x (settle_of bins setup t.runs x lists room) t.runs) survey-so
        ∙ sym (ap made (le-ltb (t.next + 1) t.runs l))

  -- ---- a turn of either, by the pass
  pub turn-first : t.surveyed ≡ false → first_turn bins setup lists room run t ≡ turn_of bins setup lists room run t
  unfolding turn_of
  turn-first h =
      sym (ap (λ (b : Bool). cond b (second_turn bins setup lists room run t) (first_turn bins setup lists room run t)) h)

  pub turn-second : t.surveyed ≡ true → second_turn bins setup lists room run t ≡ turn_of bins setup lists room run t
  unfolding turn_of
  turn-second h =
      sym (ap (λ (b : Bool). cond b (second_turn bins setup lists room run t) (first_turn bins setup lists room run t)) h)

-- ---- the turns that are left
nearer : (n i : ℕ) → i < n → n - (i + 1) + (n + 1) < n - i + (n + 1)
nearer n i l = omega arith

nearer-back : (n i : ℕ) → n - 0 + 0 < n - i + (n + 1)
nearer-back n i = omega arith

nearer-end : (n i : ℕ) → n - n + 0 < n - i + (n + 1)
nearer-end n i = omega arith

nearer-second : (n i : ℕ) → i < n → n - (i + 1) + 0 < n - i + 0
nearer-second n i l = omega arith

-- the tables are the same from k on
abbrev Same-from : ℕ → List Float → List Float → Type 0
Same-from k after before = drop k after ≡ drop k before

-- ---- what holds from turn to turn
module _ (bins : List ℕ) (setup : Problem) (lists : List Float) (room : ℕ) (at : ℕ → Run) (n : ℕ) (old : List Float) where
  abbrev so : Reply Settled
  so = settled bins setup lists room at n

  abbrev wanted : ℕ
  wanted = list_length_of setup.error setup.genome

  abbrev kept : List Float → Type 0
  kept table = drop (stands_from setup (number_said so)) table ≡ drop (stands_from setup (number_said so)) old

  abbrev retried : ℕ → Held
  retried i = retried_of bins setup lists room at i (held_in so)

  -- the first pass writes nothing; behind it one run settled the attempt, or a second pass goes on
  pub data Stage (t : Turned) (table : List Float) : Type 0 where
    surveying : t.surveyed ≡ false → t.next < n → t.survey ≡ survey_of (length lists) wanted at t.next
        → table ≡ old → Stage t table
    through : t.surveyed ≡ true → n ≤ t.next → t.survey ≡ surveyed bins setup lists room at n
        → unsettled_in so ≡ false → t.settled ≡ so → kept table → Stage t table
    retrying : t.surveyed ≡ true → t.survey ≡ surveyed bins setup lists room at n → unsettled_in so ≡ true
        → t.settled ≡ with_in so (retried t.next) → kept table → Stage t table

  pub record Turning (t : Turned) (table : List Float) : Type 0 where
    pub runs : t.runs ≡ n
    pub within : t.next ≤ n
    pub stage : Stage t table

  -- how many turns are left at most
  abbrev pub left : Turned → ℕ
  left t = n - t.next + cond t.surveyed 0 (n + 1)

  abbrev answer : Reply FitAttempt
  answer = attempt_from bins setup lists room at n

  -- ---- behind the last turn
  module _ (t : Turned) (table : List Float) (r : Reply FitAttempt) (g : r ≡ onward (finish_of t.survey) t.settled)
      (le : n ≤ t.next) where
    abbrev Ended : Type 0
    Ended =
        (r ≡ answer)
        × (drop (stands_from setup (number_said r)) table ≡ drop (stands_from setup (number_said r)) old)

    pub ends : Turning t table → Ended
    ends w = by w.stage
      where
        by : Stage t table → Ended
        by (surveying _ l _ _) = absurd (none t.next l le)
          where
            none : (i : ℕ) → i < n → n ≤ i → ⊥
            none i l le = omega arith
        by (through _ _ e u f k) = (
          g
              ∙ one-pass bins setup lists room at n t.survey t.settled e f
              (ap unsettled_in f ∙ u),
          one-stands bins setup lists room at n t.survey t.settled e f old table
              (subst (λ (s : Reply Settled). Same-from (stands_from setup (number_said s)) table old) (sym f) k)
              r g,
        )
        by (retrying _ e u f k) =
            let last : t.next ≡ n = omega (arith, w.within) in
            let held : t.settled ≡ with_in so (retried n) = f ∙ ap (λ (i : ℕ). with_in so (retried i)) last in
            let done : r ≡ onward (finish_of t.survey) (with_in so (retried n)) = g ∙ ap (onward (finish_of t.survey)) held in (
              done ∙ two-passes bins setup lists room at n t.survey so e refl (retried n) u refl,
              two-stand bins setup lists room at n t.survey so e refl old table k table (retried n) r done
                  u refl,
            )

  -- ---- one more turn
  module _ (t r : Turned) (table after : List Float) (w : Turning t table) (l : t.next < n)
      (g : r ≡ turn_of bins setup lists room (at t.next) t)
      (h : drop (turn_stands setup t r) after ≡ drop (turn_stands setup t r) table) where
    abbrev Further : Type 0
    Further = Turning r after × (left r < left t)

    abbrev i : ℕ
    i = t.next

    abbrev surveyed-to : ℕ → Survey
    surveyed-to k = survey_of (length lists) wanted at k

    -- what the turn leaves of the table, by its pass
    stands_by : (b : Bool) → t.surveyed ≡ b
        → Same-from (cond b (table_from setup) (first_stands setup r)) after table
    stands_by b p =
        subst (λ (c : Bool). Same-from (cond c (table_from setup) (first_stands setup r)) after table) p h

    -- the survey is that of one run more
    survey-more : t.survey ≡ surveyed-to i
        → survey_step (length lists) wanted i (at i) t.survey ≡ surveyed-to (i + 1)
    unfolding survey_of
    survey-more e =
        ap (survey_step (length lists) wanted i (at i)) e
        ∙ sym (fold_more (λ (k : ℕ) (s : Survey). survey_step (length lists) wanted k (at k) s) 0 i no_survey zero-le)

    retried-more : retry_step bins setup lists room i (at i) (retried i) ≡ retried (i + 1)
    unfolding retried_of
    retried-more =
        sym
        (fold_more (λ (k : ℕ) (x : Held). retry_step bins setup lists room k (at k) x) 0 i (held_in so) zero-le)

    retried-none : retried 0 ≡ held_in so
    unfolding retried_of
    retried-none =
        fold-none (λ (k : ℕ) (x : Held). retry_step bins setup lists room k (at k) x) 0 0 (held_in so) zero-le

    less_by : (k : ℕ) (b c : Bool) → r.next ≡ k → r.surveyed ≡ b → t.surveyed ≡ c
        → n - k + cond b 0 (n + 1) < n - i + cond c 0 (n + 1) → left r < left t
    less_by k b c ek eb ec less =
        let q : left r ≡ n - k + cond b 0 (n + 1) = λ j. n - ek j + cond (eb j) 0 (n + 1) in
        let o : left t ≡ n - i + cond c 0 (n + 1) = λ j. n - i + cond (ec j) 0 (n + 1) in
        subst (λ (m : ℕ). m < left t) (sym q) (subst (λ (m : ℕ). n - k + cond b 0 (n + 1) < m) (sym o) less)

    -- ---- the first pass
    module _ (p : t.surveyed ≡ false) (e : t.survey ≡ surveyed-to i) (same : table ≡ old) where
      turned : r ≡ first_turn bins setup lists room (at i) t
      turned = g ∙ sym (turn-first bins setup lists room (at i) t p)

      stood : drop (first_stands setup r) after ≡ drop (first_stands setup r) old
      stood =
          subst (λ (x : List Float). Same-from (first_stands setup r) after x) same
          (stands_by false p)

      abbrev survey : Survey
      survey = stepped bins setup lists room (at i) t

      made_so : (b : Bool) → ltb (i + 1) t.runs ≡ b → r ≡ made bins setup lists room (at i) t b
      unfolding first_turn
      made_so b m = turned ∙ ap (made bins setup lists room (at i) t) m

      -- another run is left
      goes-more : ltb (i + 1) t.runs ≡ true → Further
      goes-more m =
          let d : r ≡ gone_on survey t = made_so true m in
          let next : r.next ≡ i + 1 = ap (λ (x : Turned). x.next) d in
          let more : i + 1 < t.runs = ltb-true (i + 1) t.runs m in
          let runs : t.runs ≡ n = w.runs in (
            record {
              runs = ap (λ (x : Turned). x.runs) d ∙ w.runs;
              within = omega arith;
              stage =
                  surveying (ap (λ (x : Turned). x.surveyed) d) (omega arith)
                  (ap (λ (x : Turned). x.survey) d ∙ survey-more e ∙ ap surveyed-to (sym next))
                  (subst (λ (x : Turned). Same-from (first_stands setup x) after old) d stood);
            },
            less_by (i + 1) false false next (ap (λ (x : Turned). x.surveyed) d) p (nearer n i l),
          )

      -- it was the last
      settled-last : i + 1 ≡ n → ltb (i + 1) t.runs ≡ false
          → r ≡ settled_to (surveyed bins setup lists room at n) so n
      settled-last last m =
          let full : survey ≡ surveyed bins setup lists room at n = survey-more e ∙ ap surveyed-to last in
          made_so false m
          ∙ (λ j. settled_to (full j) (settle_of bins setup (w.runs j) (full j) lists room) (w.runs j))

      goes_last : i + 1 ≡ n → r ≡ settled_to (surveyed bins setup lists room at n) so n → (u : Bool)
          → unsettled_in so ≡ u → Further
      goes_last last d true u =
          let next : r.next ≡ 0 = ap (λ (x : Turned). x.next) d ∙ ap (λ (b : Bool). second_from b n) u in (
            record {
              runs = ap (λ (x : Turned). x.runs) d;
              within = omega arith;
              stage =
                  retrying (ap (λ (x : Turned). x.surveyed) d) (ap (λ (x : Turned). x.survey) d) u
                  (ap (λ (x : Turned). x.settled) d ∙ sym (held-same so) ∙ ap (with_in so) (sym retried-none)
                  ∙ ap (λ (k : ℕ). with_in so (retried k)) (sym next))
                  (subst (λ (x : Turned). Same-from (first_stands setup x) after old) d stood);
            },
            less_by 0 true false next (ap (λ (x : Turned). x.surveyed) d) p (nearer-back n i),
          )
      goes_last last d false u =
          let next : r.next ≡ n = ap (λ (x : Turned). x.next) d ∙ ap (λ (b : Bool). second_from b n) u in (
            record {
              runs = ap (λ (x : Turned). x.runs) d;
              within = omega arith;
              stage =
                  through (ap (λ (x : Turned). x.surveyed) d) (omega arith) (ap (λ (x : Turned). x.survey) d) u
                  (ap (λ (x : Turned). x.settled) d)
                  (subst (λ (x : Turned). Same-from (first_stands setup x) after old) d stood);
            },
            less_by n true false next (ap (λ (x : Turned). x.surveyed) d) p (nearer-end n i),
          )

      goes_first : (b : Bool) → ltb (i + 1) t.runs ≡ b → Further
      goes_first true m = goes-more m
      goes_first false m =
          let le : t.runs ≤ i + 1 = ltb-false (i + 1) t.runs m in
          let runs : t.runs ≡ n = w.runs in
          let last : i + 1 ≡ n = omega arith in
          goes_last last (settled-last last m) (unsettled_in so) refl

    -- ---- the second
    goes-second : t.surveyed ≡ true → t.survey ≡ surveyed bins setup lists room at n → unsettled_in so ≡ true
        → t.settled ≡ with_in so (retried i) → kept table → Further
    goes-second p e u f k =
        let d : r ≡ second_turn bins setup lists room (at i) t = g ∙ sym (turn-second bins setup lists room (at i) t p) in
        let next : r.next ≡ i + 1 = ap (λ (x : Turned). x.next) d in
        let is = unsettled-is bins setup n (surveyed bins setup lists room at n) lists room u in
        let written : drop (stands_from setup 0) after ≡ drop (stands_from setup 0) table =
        stands_by true p in (
          record {
            runs = ap (λ (x : Turned). x.runs) d ∙ w.runs;
            within = omega arith;
            stage =
                retrying (ap (λ (x : Turned). x.surveyed) d) (ap (λ (x : Turned). x.survey) d ∙ e) u
                (ap (λ (x : Turned). x.settled) d
                ∙ ap (onward (λ (s : Settled). with_held s (retry_step bins setup lists room i (at i) s.held))) f
                ∙ held-with so (retried i) (retry_step bins setup lists room i (at i))
                ∙ ap (with_in so) retried-more
                ∙ ap (λ (m : ℕ). with_in so (retried m)) (sym next))
                (subst (λ (m : ℕ). Same-from (stands_from setup m) after old) (sym is)
                (written ∙ subst (λ (m : ℕ). Same-from (stands_from setup m) table old) is k));
          },
          less_by (i + 1) true true next (ap (λ (x : Turned). x.surveyed) d) p (nearer-second n i l),
        )

    pub goes_on : Further
    goes_on = by w.stage
      where
        by : Stage t table → Further
        by (surveying p _ e same) = goes_first p e same (ltb (i + 1) t.runs) refl
        by (through _ le _ _ _ _) = absurd (none i l le)
          where
            none : (i : ℕ) → i < n → n ≤ i → ⊥
            none i l le = omega arith
        by (retrying p e u f k) = goes-second p e u f k

  -- ---- before the first turn
  none-surveyed : (k : ℕ) → k ≡ 0 → no_survey ≡ survey_of (length lists) wanted at k
  unfolding survey_of
  none-surveyed k e =
      let le : k ≤ 0 = omega arith in
      sym (fold-none (λ (k : ℕ) (s : Survey). survey_step (length lists) wanted k (at k) s) 0 k no_survey le)

  empty-same : empty_settled bins setup room ≡ settle_of bins setup 0 no_survey lists room
  unfolding empty_settled settle_of
  empty-same = refl

  empty-through : unsettled_in (settle_of bins setup 0 no_survey lists room) ≡ false
  unfolding settle_of
  empty-through = go (survey_tests bins setup 0 no_survey room)
    where
      go : (ts : List Test) → unsettled_in (chain ts (give (unheld_by setup))) ≡ false
      go [] = refl
      go (test true k ∷ ts) = refl
      go (test false k ∷ ts) = go ts

  pub begins : (t : Turned) → t ≡ begin_of bins setup n room → Turning t old
  begins t g = from n refl
    where
      from : (m : ℕ) → n ≡ m → Turning t old
      from zero e =
          let next : t.next ≡ 0 = ap (λ (x : Turned). x.next) g in
          let same : so ≡ settle_of bins setup 0 no_survey lists room =
          λ j. settle_of bins setup (e j) (sym (none-surveyed n e) j) lists room in
          record {
            runs = ap (λ (x : Turned). x.runs) g;
            within = omega arith;
            stage =
                through (ap (λ (x : Turned). x.surveyed) g ∙ eq-eqb n 0 e) (omega arith)
                (ap (λ (x : Turned). x.survey) g ∙ none-surveyed n e)
                (ap unsettled_in same ∙ empty-through)
                (ap (λ (x : Turned). x.settled) g ∙ empty-same ∙ sym same) refl;
          }
      from (suc m) e =
          let next : t.next ≡ 0 = ap (λ (x : Turned). x.next) g in
          let some : n ≡ 0 → ⊥ = λ (z : n ≡ 0). absurd (no m (sym e ∙ z)) in
          record {
            runs = ap (λ (x : Turned). x.runs) g;
            within = omega arith;
            stage =
                surveying (ap (λ (x : Turned). x.surveyed) g ∙ ne_eqb n 0 some) (omega arith)
                (ap (λ (x : Turned). x.survey) g ∙ none-surveyed t.next next) refl;
          }
        where
          no : (m : ℕ) → suc m ≡ 0 → ⊥
          no m z = omega arith
