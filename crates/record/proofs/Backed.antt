-- WHAT BACKS A CUTOFF. The answer is at most the hole cutoff, so it keeps the budget as the hole does: where the last line
-- is `cutoff N`, an N of 3 or more removes at most the allowed share and one part in 2 ^ 36 of it, and nothing is supposed
-- (`cutoff-keeps`); of `unsure N` the same holds under demand 3's premise (`unsure-keeps`). Where it is `cutoff none`, no
-- cutoff up to the ceiling removes more (`none-keeps`). At 2 the line that says kept or broken is right of a sure hole
-- (`least-line-kept`, `least-line-broken`). Assumes nothing.
use Prim.Native.Nat.{ℕ, ◌≤◌}
use mathlib.Core.Path.{◌≡◌, refl, sym, ap, ◌∙◌, subst}
use mathlib.Core.Bool.{Bool, true, false, not, cond}
use native.Mathlib.Nat.{le_trans}
use native.Mathlib.Omega.{arith}
use lib.Dec.{T, eqb}
use lib.Ieee.{Float, lt}
use lib.Ieee.Scale.{finite}
use Rattle.meaning.specs.Reply.{Reply, refuse, broken, give}
use Rattle.models.specs.ClaimsCutoff.{removed_by, allowed_share, AtMost, Exceeds, Supposed, told_of}
use Rattle.models.specs.Cutoffs.{Sureness, sure, not_sure, no_walk, allowed_of, ceiling_of, hole_cutoff_of}
use Rattle.models.specs.Cutoffs.{hole_cutoff_sure_of}
use Rattle.models.proofs.HoleCutoffs.{told_same, sure-supposed, sure-keeps, hole-cutoff-range}
use Rattle.models.proofs.Lower.{lower-keeps, least_kept, least-broken}
use Rattle.fitter.specs.declared.asking.Asked.{Asked}
use Rattle.models.specs.declared.fit.SpectrumFit.{SpectrumFit}
use Rattle.record.specs.Answers.{smaller_of, answer_place, answer_of, is_below, by_hole, least_removed, least_at}
use Rattle.record.specs.Answers.{least_kind}
use Rattle.record.specs.Answers.{is_low, backed_by, last_in, last_number, last_place}
use Rattle.record.specs.Attempts.{cutoffs_of}
use Rattle.record.specs.Record.{chosen_last, last_of}
use Rattle.record.specs.Values.{sure_number, why_not, hole_in, hole_of}
use Rattle.record.specs.declared.answers.Answer.{Answer}
use Rattle.record.specs.declared.answers.Last.{Last}
use Rattle.record.specs.declared.answers.Last.TheVariants.{Cutoff, Unsure, NoFit}
use Rattle.record.specs.declared.values.Hole.{Hole}
use Rattle.record.specs.declared.values.HowSure.{HowSure}
use Rattle.record.specs.declared.values.HowSure.TheVariants.{Sure, NotFinite, NotProbable}
use Rattle.record.specs.declared.values.Place.{Place}
use Rattle.record.specs.declared.values.Place.TheVariants.{Nothing, At, Unknown}
use Rattle.std.specs.Prelude.{Option, None, Some, unwrap_or}
use Rattle.models.specs.Unpacking.{empty_fit}

-- ---- the last line of a reply to `hole_cutoff_sure`
-- why it is not sure, by the test of the share
abbrev why : Bool → HowSure
why f = cond f NotProbable NotFinite

abbrev answered : Bool → Bool → Place → Answer
answered by below p = record { place = p; hole = by; below = below }

abbrev line_of : ℕ → Bool → Bool → Hole → Last
line_of valley by below h = last_in h.how (answered by below (answer_place valley h.place))

-- of a sure hole it has the answer, sure or not
shows : (a : Answer) → last_place (backed_by a) ≡ a.place
unfolding backed_by
shows a = go (is_low a)
  where
    go : (b : Bool) → last_place (cond b (Unsure a.place) (Cutoff a.place)) ≡ a.place
    go true = refl
    go false = refl

nothing : (n : ℕ) → Nothing ≡ At n → ⊥
nothing n e = let z : ◌≡◌ {A = ℕ} 0 1 = cc in omega arith

same_count : (m n : ℕ) → At m ≡ At n → n ≡ m
same_count m n e = cc

-- a count: the walk found one, and the line has the smaller of that and the valley
record Counted (valley n : ℕ) (reply : Reply Sureness) : Type 0 where
  hole : ℕ
  told : told_of reply ≡ give (Some hole)
  at : n ≡ smaller_of valley hole

counted : (valley n : ℕ) (f by below : Bool) (reply : Reply Sureness)
    → let l = line_of valley by below (hole_in (why f) reply) in
    last_number l ≤ 1 → last_place l ≡ At n → Counted valley n reply
counted valley n f by below (refuse m) k p = absurd (omega arith)
counted valley n f by below (broken place) k p = absurd (omega arith)
counted valley n f by below (give (sure None)) k p = absurd (nothing n (sym (shows (answered by below Nothing)) ∙ p))
counted valley n f by below (give (sure (Some c))) k p =
    let smaller = smaller_of valley c in
    record { hole = c; told = refl; at = same_count smaller n (sym (shows (answered by below (At smaller))) ∙ p) }
counted valley n true by below (give (not_sure None)) k p = absurd (nothing n p)
counted valley n false by below (give (not_sure None)) k p = absurd (nothing n p)
counted valley n true by below (give (not_sure (Some c))) k p =
    record { hole = c; told = refl; at = same_count (smaller_of valley c) n p }
counted valley n false by below (give (not_sure (Some c))) k p =
    record { hole = c; told = refl; at = same_count (smaller_of valley c) n p }
counted valley n f by below (give no_walk) k p = absurd (nothing n p)

-- a cutoff: the walk is sure
certain : (valley : ℕ) (f by below : Bool) (reply : Reply Sureness)
    → last_number (line_of valley by below (hole_in (why f) reply)) ≡ 0 → (a : Option ℕ) × (reply ≡ give (sure a))
certain valley f by below (refuse m) k = absurd (omega arith)
certain valley f by below (broken place) k = absurd (omega arith)
certain valley f by below (give (sure a)) k = (a, refl)
certain valley true by below (give (not_sure a)) k = absurd (omega arith)
certain valley false by below (give (not_sure a)) k = absurd (omega arith)
certain valley f by below (give no_walk) k = absurd (omega arith)

-- none, and a cutoff: the walk found none, and it is sure
uncounted : (valley : ℕ) (f by below : Bool) (reply : Reply Sureness)
    → let l = line_of valley by below (hole_in (why f) reply) in
    last_number l ≡ 0 → last_place l ≡ Nothing → reply ≡ give (sure None)
uncounted valley f by below (refuse m) k p = absurd (omega arith)
uncounted valley f by below (broken place) k p = absurd (omega arith)
uncounted valley f by below (give (sure None)) k p = refl
uncounted valley f by below (give (sure (Some c))) k p =
    let smaller = smaller_of valley c in
    absurd (nothing smaller (sym p ∙ shows (answered by below (At smaller))))
uncounted valley true by below (give (not_sure a)) k p = absurd (omega arith)
uncounted valley false by below (give (not_sure a)) k p = absurd (omega arith)
uncounted valley f by below (give no_walk) k p = absurd (omega arith)

smaller-below : (valley hole : ℕ) → 2 ≤ hole → smaller_of valley hole ≤ hole
unfolding smaller_of
smaller-below valley hole h = omega arith

module _ (asked : Asked) (fit : SpectrumFit) where
  abbrev budget : Float
  budget = asked.budget

  abbrev reply : Reply Sureness
  reply = hole_cutoff_sure_of fit budget

  abbrev place : Place
  place = (hole_of fit budget).place

  -- the line's own tests, which no law here needs to know
  abbrev by : Bool
  by = by_hole asked.valley place

  abbrev below : Bool
  below = is_below (answer_place asked.valley place) (cutoffs_of fit budget).floor

  -- ---- the hole cutoff, by the call without `sure`
  same-hole : (h : ℕ) → told_of reply ≡ give (Some h) → hole_cutoff_of fit budget ≡ give (Some h)
  same-hole h e = sym (told_same fit budget) ∙ e

  keeps : (n : ℕ) → Supposed fit budget → 3 ≤ n → Counted asked.valley n reply
      → AtMost (removed_by fit n) (allowed_share fit budget)
  keeps n s three c =
      let hole = c.hole in
      let found = same-hole hole c.told in
      let small : smaller_of asked.valley hole ≤ hole = smaller-below asked.valley hole
      (hole-cutoff-range fit budget hole found).0 in
      let same : n ≡ smaller_of asked.valley hole = c.at in
      let most : n ≤ hole = omega arith in
      lower-keeps fit budget s hole found (le_trans three most) n most

  counts : (n : ℕ) → last_number (chosen_last asked fit) ≤ 1 → last_place (chosen_last asked fit) ≡ At n
      → Counted asked.valley n reply
  unfolding chosen_last answer_of why_not
  counts n k p = counted asked.valley n (finite (allowed_of fit budget)) by below reply k p

  chosen-cutoff : (n : ℕ) → chosen_last asked fit ≡ Cutoff (At n) → 3 ≤ n
      → AtMost (removed_by fit n) (allowed_share fit budget)
  unfolding chosen_last answer_of why_not
  chosen-cutoff n e three =
      let kind : last_number (chosen_last asked fit) ≡ 0 = ap last_number e in
      let c = certain asked.valley (finite (allowed_of fit budget)) by below reply kind in
      keeps n (sure-supposed fit budget c.0 c.1) three (counts n (omega arith) (ap last_place e))

  chosen-unsure : (n : ℕ) → Supposed fit budget → chosen_last asked fit ≡ Unsure (At n) → 3 ≤ n
      → AtMost (removed_by fit n) (allowed_share fit budget)
  chosen-unsure n s e three =
      let kind : last_number (chosen_last asked fit) ≡ 1 = ap last_number e in
      keeps n s three (counts n (omega arith) (ap last_place e))

  chosen_none : chosen_last asked fit ≡ Cutoff Nothing → AtMost (removed_by fit (ceiling_of fit)) (allowed_share fit budget)
  unfolding chosen_last answer_of why_not
  chosen_none e =
      let f = finite (allowed_of fit budget) in
      (sure-keeps fit budget None
      (uncounted asked.valley f by below reply (ap last_number e) (ap last_place e))).1.stays refl

-- ---- THE THEOREMS, of the last line of a selection
-- the selected fit, and the empty one where there is none
abbrev pub fit_of : Option SpectrumFit → SpectrumFit
fit_of s = unwrap_or s empty_fit

module _ (asked : Asked) where
  selected : (s : Option SpectrumFit) (l : Last) → (NoFit ≡ l → ⊥) → last_of asked s ≡ l
      → chosen_last asked (fit_of s) ≡ l
  selected None l never e = absurd (never e)
  selected (Some fit) l never e = e

  other : (l : Last) → last_number l ≤ 1 → NoFit ≡ l → ⊥
  other l k e = let two : 2 ≡ last_number l = ap last_number e in omega arith

  module _ (s : Option SpectrumFit) where
    abbrev fit : SpectrumFit
    fit = fit_of s

    pub cutoff-keeps : (n : ℕ) → last_of asked s ≡ Cutoff (At n) → 3 ≤ n
        → AtMost (removed_by fit n) (allowed_share fit asked.budget)
    cutoff-keeps n e =
        chosen-cutoff asked fit n (selected s (Cutoff (At n)) (other (Cutoff (At n)) (omega arith)) e)

    pub unsure-keeps : (n : ℕ) → Supposed fit asked.budget → last_of asked s ≡ Unsure (At n) → 3 ≤ n
        → AtMost (removed_by fit n) (allowed_share fit asked.budget)
    unsure-keeps n h e =
        chosen-unsure asked fit n h (selected s (Unsure (At n)) (other (Unsure (At n)) (omega arith)) e)

    pub none-keeps : last_of asked s ≡ Cutoff Nothing
        → AtMost (removed_by fit (ceiling_of fit)) (allowed_share fit asked.budget)
    none-keeps e = chosen_none asked fit (selected s (Cutoff Nothing) (other (Cutoff Nothing) (omega arith)) e)

-- ---- the line at 2
sure-hole : (f : Bool) (reply : Reply Sureness) → sure_number (hole_in (why f) reply).how ≡ 0
    → (a : Option ℕ) × (reply ≡ give (sure a))
sure-hole f (refuse n) e = absurd (omega arith)
sure-hole f (broken place) e = absurd (omega arith)
sure-hole f (give (sure a)) e = (a, refl)
sure-hole true (give (not_sure a)) e = absurd (omega arith)
sure-hole false (give (not_sure a)) e = absurd (omega arith)
sure-hole f (give no_walk) e = absurd (omega arith)

-- the line shows how the comparison went
shown : (two above : Bool) (k : ℕ) → 1 ≤ k → cond two (cond above 2 1) 0 ≡ k → above ≡ eqb k 2
shown true true k h e = subst (λ (n : ℕ). true ≡ eqb n 2) e refl
shown true false k h e = subst (λ (n : ℕ). false ≡ eqb n 2) e refl
shown false above k h e = absurd (omega arith)

module _ (fit : SpectrumFit) (budget : Float) where
  abbrev kind_at : Place → ℕ
  kind_at answer = least_kind answer (allowed_of fit budget) (least_removed fit)

  compared : (answer : Place) (k : ℕ) → 1 ≤ k → kind_at answer ≡ k
      → lt (allowed_of fit budget) (least_removed fit) ≡ eqb k 2
  unfolding least_at
  compared (At c) k h e = shown (eqb c 2) (lt (allowed_of fit budget) (least_removed fit)) k h e
  compared Nothing k h e = absurd (omega arith)
  compared Unknown k h e = absurd (omega arith)

  module _ (answer : Place) (hole : (hole_of fit budget).how ≡ Sure) where
    found : (a : Option ℕ) × (hole_cutoff_sure_of fit budget ≡ give (sure a))
    unfolding why_not
    found = sure-hole (finite (allowed_of fit budget)) (hole_cutoff_sure_of fit budget) (ap sure_number hole)

    pub least-line-kept : kind_at answer ≡ 1 → AtMost (removed_by fit 2) (allowed_share fit budget)
    least-line-kept e =
        let s = sure-supposed fit budget found.0 found.1 in
        least_kept fit budget s found.0 (sure-keeps fit budget found.0 found.1).0
        (subst (λ (b : Bool). T (not b)) (sym (compared answer 1 (omega arith) e)) tt)

    pub least-line-broken : kind_at answer ≡ 2 → Exceeds (removed_by fit 2) (allowed_share fit budget)
    least-line-broken e =
        let s = sure-supposed fit budget found.0 found.1 in
        least-broken fit budget s found.0 (sure-keeps fit budget found.0 found.1).0
        (subst T (sym (compared answer 2 (omega arith) e)) tt)
