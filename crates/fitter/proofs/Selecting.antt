-- What is selected: a valid candidate, or none where none is valid. Of two valid ones it is the first, unless the
-- second's BIC replaces it. Assumes nothing.
use mathlib.Core.Path.{◌≡◌, refl, sym, ap, ◌∙◌, subst}
use mathlib.Core.Logic.{◌⊎◌, inl, inr}
use mathlib.Core.Bool.{Bool, true, false, cond, ◌&&◌, true≢false, false≢true}
use mathlib.Core.List.{List, [], ◌∷◌, ◌++◌, foldl-append, append-nil, append_assoc}
use mathlib.Core.List.Memᴰ
use mathlib.Core.List.{Memᴰ}
use Prim.Native.Nat.{ℕ, ◌+◌, ◌≤◌, ◌<◌}
use native.Mathlib.Numerals.{add-one}
use lib.ListN.{length, take, get_or}
use Rattle.std.proofs.Math.Seq.{take-suc}
use Rattle.std.proofs.lemmas.List.{take_all}
use Rattle.fitter.specs.Attempts.{valid_of, candidate_in}
use Rattle.fitter.specs.Outcomes.{Taken, Outcome, none, one}
use Rattle.fitter.specs.Selection.{replaces_of, nothing, chosen, is_beaten, wins_of, replace_of, select_of}
use Rattle.fitter.specs.declared.attempts.FitAttempt.{FitAttempt}
use Rattle.models.specs.declared.fit.SpectrumFit.{SpectrumFit}
use Rattle.std.specs.Prelude.{Option}

-- ---- one step
pub passed_over : (best : Option SpectrumFit) (a : FitAttempt) → valid_of a ≡ false → replace_of best a ≡ best
unfolding replace_of wins_of
passed_over best a h = rw h

pub first-valid : (a : FitAttempt) → valid_of a ≡ true → replace_of nothing a ≡ chosen (candidate_in a)
unfolding replace_of wins_of
first-valid a h = rw h

pub next-valid : (a b : FitAttempt) → valid_of b ≡ true
    → replace_of (chosen (candidate_in a)) b
    ≡ cond (replaces_of (candidate_in a).bic (candidate_in b).bic) (chosen (candidate_in b)) (chosen (candidate_in a))
unfolding replace_of wins_of
next-valid a b h = rw h

pub of_two : (a b : FitAttempt) → valid_of a ≡ true → valid_of b ≡ true
    → select_of (a ∷ b ∷ [])
    ≡ cond (replaces_of (candidate_in a).bic (candidate_in b).bic) (chosen (candidate_in b)) (chosen (candidate_in a))
unfolding select_of
of_two a b h k = ap (λ (s : Option SpectrumFit). replace_of s b) (first-valid a h) ∙ next-valid a b k

-- ---- tests
and_first : (a b : Bool) → (a && b) ≡ true → a ≡ true
and_first true b h = refl
and_first false b h = absurd (false≢true h)

and_second : (a b : Bool) → a ≡ true → (a && b) ≡ false → b ≡ false
and_second true b h k = k
and_second false b h k = absurd (false≢true h)

and-true : (a : Bool) → (a && true) ≡ false → a ≡ false
and-true true h = absurd (true≢false h)
and-true false h = refl

-- ---- one attempt more
module _ (before : List FitAttempt) (b : FitAttempt) where
  abbrev best : Option SpectrumFit
  best = select_of before

  took : wins_of best b ≡ true → Outcome (before ++ b ∷ []) (replace_of best b)
  unfolding replace_of wins_of
  took w =
      one b (rw w)
      (record {
        before = before;
        after = [];
        order = refl;
        valid = and_first (valid_of b) (is_beaten best (candidate_in b).bic) w;
        beats = w;
        stays = λ (c : FitAttempt) (m : Memᴰ c []) (v : valid_of c ≡ true). absurd (Memᴰ.not-nil m);
      })

  kept : wins_of best b ≡ false → replace_of best b ≡ best
  unfolding replace_of
  kept w = rw w

  still-none : wins_of best b ≡ false → best ≡ nothing → ((c : FitAttempt) → Memᴰ c before → valid_of c ≡ false)
      → (c : FitAttempt) → Memᴰ c (before ++ b ∷ []) → valid_of c ≡ false
  unfolding wins_of
  still-none w e all c m = which (Memᴰ.append_cases before m)
    where
      invalid : valid_of b ≡ false
      invalid = and-true (valid_of b) (sym (ap (λ (s : Option SpectrumFit). wins_of s b) e) ∙ w)

      last : (c ≡ b) ⊎ Memᴰ c [] → valid_of c ≡ false
      last (inl same) = ap valid_of same ∙ invalid
      last (inr m) = absurd (Memᴰ.not-nil m)

      which : Memᴰ c before ⊎ Memᴰ c (b ∷ []) → valid_of c ≡ false
      which (inl m) = all c m
      which (inr m) = last (Memᴰ.cases_cons m)

  still-taken : (a : FitAttempt) → wins_of best b ≡ false → best ≡ chosen (candidate_in a) → Taken before a
      → Taken (before ++ b ∷ []) a
  unfolding wins_of
  still-taken a w e t = record {
    before = t.before;
    after = t.after ++ b ∷ [];
    order = ap (λ (l : List FitAttempt). l ++ b ∷ []) t.order ∙ append_assoc t.before (a ∷ t.after) (b ∷ []);
    valid = t.valid;
    beats = t.beats;
    stays = λ (c : FitAttempt) (m : Memᴰ c (t.after ++ b ∷ [])) (v : valid_of c ≡ true).
        which c v (Memᴰ.append_cases t.after m);
  }
    where
      refused : valid_of b ≡ true → replaces_of (candidate_in a).bic (candidate_in b).bic ≡ false
      refused v =
          and_second (valid_of b) (replaces_of (candidate_in a).bic (candidate_in b).bic) v
          (sym (ap (λ (s : Option SpectrumFit). wins_of s b) e) ∙ w)

      last : (c : FitAttempt) → valid_of c ≡ true → (c ≡ b) ⊎ Memᴰ c []
          → replaces_of (candidate_in a).bic (candidate_in c).bic ≡ false
      last c v (inl same) =
          ap (λ (d : FitAttempt). replaces_of (candidate_in a).bic (candidate_in d).bic) same
          ∙ refused (sym (ap valid_of same) ∙ v)
      last c v (inr m) = absurd (Memᴰ.not-nil m)

      which : (c : FitAttempt) → valid_of c ≡ true → Memᴰ c t.after ⊎ Memᴰ c (b ∷ [])
          → replaces_of (candidate_in a).bic (candidate_in c).bic ≡ false
      which c v (inl m) = t.stays c m v
      which c v (inr m) = last c v (Memᴰ.cases_cons m)

  more : Outcome before best → Outcome (before ++ b ∷ []) (replace_of best b)
  more so = go (wins_of best b) refl so
    where
      go : (w : Bool) → wins_of best b ≡ w → Outcome before best → Outcome (before ++ b ∷ []) (replace_of best b)
      go true w so = took w
      go false w (none e all) = none (kept w ∙ e) (still-none w e all)
      go false w (one a e t) = one a (kept w ∙ e) (still-taken a w e t)

  next : select_of (before ++ b ∷ []) ≡ replace_of best b
  unfolding select_of
  next = foldl-append replace_of nothing before (b ∷ [])

-- ---- THE THEOREM
selected-from : (before rest : List FitAttempt) → Outcome before (select_of before)
    → Outcome (before ++ rest) (select_of (before ++ rest))
selected-from before [] so =
    subst (λ (l : List FitAttempt). Outcome l (select_of l)) (sym (append-nil before)) so
selected-from before (b ∷ rest) so =
    subst (λ (l : List FitAttempt). Outcome l (select_of l)) (append_assoc before (b ∷ []) rest)
    (selected-from (before ++ b ∷ []) rest
    (subst (Outcome (before ++ b ∷ [])) (sym (next before b)) (more before b so)))

pub selected : (attempts : List FitAttempt) → Outcome attempts (select_of attempts)
unfolding select_of
selected attempts =
    selected-from [] attempts (none refl (λ (c : FitAttempt) (m : Memᴰ c []). absurd (Memᴰ.not-nil m)))

-- ---- one attempt more, by its place
pub selected-more : (attempts : List FitAttempt) (i : ℕ) (past : FitAttempt) (best made : Option SpectrumFit)
    → made ≡ replace_of best (get_or attempts i past) → best ≡ select_of (take i attempts) → i < length attempts
    → made ≡ select_of (take (i + 1) attempts)
selected-more attempts i past best made m b h =
    m ∙ ap (λ (s : Option SpectrumFit). replace_of s (get_or attempts i past)) b
    ∙ sym (next (take i attempts) (get_or attempts i past))
    ∙ ap select_of (sym (take-suc attempts i past h) ∙ ap (λ (n : ℕ). take n attempts) (sym (add-one i)))

pub selected-none : (attempts : List FitAttempt) → nothing ≡ select_of (take 0 attempts)
unfolding select_of
selected-none attempts = refl

pub selected-all : (attempts : List FitAttempt) (i : ℕ) → length attempts ≤ i
    → select_of (take i attempts) ≡ select_of attempts
selected-all attempts i h = ap select_of (take_all i attempts h)
