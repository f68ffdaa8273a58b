-- The fold of the one-byte step, a number at a time: a whole number takes the reader to the next one, and one at fault
-- stops it where the number starts. Assumes nothing.
use Prim.Native.Nat.{ℕ, zero, suc, ◌+◌, ◌≤◌, ◌<◌}
use mathlib.Core.Path.{◌≡◌, refl, sym, ap, ◌∙◌, subst}
use mathlib.Core.List.{List, [], ◌∷◌, ◌++◌}
use native.Mathlib.Nat.{add-zero}
use native.Mathlib.Omega.{arith}
use lib.ListN.{length, get_or, drop, drop_of_length-le}
use lib.Seq.{drop-drop, drop-cons}
use Rattle.meaning.specs.Reply.{refuse, broken, give}
use Rattle.meaning.proofs.Replies.{same_answer, same_place, answer-not-refused, answer-not-broken, refused-not-broken}
use Rattle.histogram.specs.declared.number.Taken.{Taken}
use Rattle.histogram.specs.declared.number.Taken.TheVariants.{More, Whole, Wrong}
use Rattle.histogram.specs.declared.number.Found.{Found}
use Rattle.histogram.specs.Number.{take_byte_of, found_by, number_from, number_at_of}
use Rattle.histogram.specs.File.{Stage, form, count, bins, range_of, next_of, State, reading, stopped, goes_on}
use Rattle.histogram.specs.File.{step_of, steps_of, ends_of, end_of, read_from}
use Rattle.histogram.proofs.Takes as takes

-- ---- a part of a file after another
pub steps-append : (state : State) (xs ys : List ℕ) → steps_of state (xs ++ ys) ≡ steps_of (steps_of state xs) ys
unfolding steps_of
steps-append state [] ys = refl
steps-append state (x ∷ xs) ys = steps-append (step_of state x) xs ys

pub stays-stopped : (place : ℕ) (bytes : List ℕ) → steps_of (stopped place) bytes ≡ stopped place
unfolding steps_of step_of
stays-stopped place [] = refl
stays-stopped place (b ∷ bytes) = stays-stopped place bytes

-- one byte, by what it makes of the number
pub one-step : (stage : Stage) (start value groups b : ℕ) (bytes : List ℕ) (t : Taken) → take_byte_of (range_of stage) value groups b ≡ t → steps_of (reading stage start value groups) (b ∷ bytes) ≡ steps_of (goes_on stage start groups t) bytes
unfolding steps_of step_of
one-step stage start value groups b bytes t q = ap (λ (u : Taken). steps_of (goes_on stage start groups u) bytes) q

-- ---- a number that is whole
-- f is read, in k bytes from here on
pub record Reads (stage : Stage) (start value groups : ℕ) (bytes : List ℕ) (f : Found) : Type 0 where
  pub k : ℕ
  pub behind : f.next ≡ start + groups + k
  pub low : (range_of stage).least ≤ f.value
  pub high : f.value ≤ (range_of stage).most
  pub steps : steps_of (reading stage start value groups) bytes ≡ steps_of (reading (next_of stage f.value) f.next 0 0) (drop k bytes)

pub whole-number : (stage : Stage) (start value groups : ℕ) (bytes : List ℕ) (f : Found) → number_from (range_of stage) start value groups bytes ≡ give f → Reads stage start value groups bytes f
unfolding number_from
whole-number stage start value groups [] f e = absurd (answer-not-broken (sym e))
whole-number stage start value groups (b ∷ bytes) f e =
    go (take_byte_of (range_of stage) value groups b) refl (λ (v : ℕ). whole-number stage start v (suc groups) bytes f) e
  where
    moved : (k : ℕ) → start + suc groups + k ≡ start + groups + suc k
    moved k = omega arith

    one : start + suc groups ≡ start + groups + 1
    one = omega arith

    go : (t : Taken) → take_byte_of (range_of stage) value groups b ≡ t
        → ((v : ℕ) → number_from (range_of stage) start v (suc groups) bytes ≡ give f → Reads stage start v (suc groups) bytes f)
        → found_by t start (start + suc groups) (λ v. number_from (range_of stage) start v (suc groups) bytes) ≡ give f → Reads stage start value groups (b ∷ bytes) f
    go (More v) q ih h =
        let w = ih v h in
        record {
          k = suc w.k;
          behind = w.behind ∙ moved w.k;
          low = w.low;
          high = w.high;
          steps = one-step stage start value groups b bytes (More v) q ∙ w.steps;
        }
    go (Whole n) q ih h =
        let s : ◌≡◌ {A = Found} (record { value = n; next = start + suc groups }) f = same_answer h in
        let t = takes.tells (range_of stage) value groups b (Whole n) q in
        record {
          k = 1;
          behind = sym (ap (λ (g : Found). g.next) s) ∙ one;
          low = subst (λ (g : Found). (range_of stage).least ≤ g.value) s t.low;
          high = subst (λ (g : Found). g.value ≤ (range_of stage).most) s t.high;
          steps = one-step stage start value groups b bytes (Whole n) q ∙ ap (λ (g : Found). steps_of (reading (next_of stage g.value) g.next 0 0) bytes) s;
        }
    go Wrong q ih h = absurd (answer-not-broken (sym h))

-- ---- a number at fault, where one has to come
pub number-at-fault : (stage : Stage) (start value groups place : ℕ) (bytes : List ℕ) → ends_of stage start ≡ broken start → number_from (range_of stage) start value groups bytes ≡ broken place
    → (place ≡ start) × (end_of (steps_of (reading stage start value groups) bytes) ≡ broken start)
unfolding number_from steps_of
number-at-fault stage start value groups place [] short e = (sym (same_place e), short)
number-at-fault stage start value groups place (b ∷ bytes) short e =
    go (take_byte_of (range_of stage) value groups b) refl (λ (v : ℕ). number-at-fault stage start v (suc groups) place bytes short) e
  where
    go : (t : Taken) → take_byte_of (range_of stage) value groups b ≡ t
        → ((v : ℕ) → number_from (range_of stage) start v (suc groups) bytes ≡ broken place → (place ≡ start) × (end_of (steps_of (reading stage start v (suc groups)) bytes) ≡ broken start))
        → found_by t start (start + suc groups) (λ v. number_from (range_of stage) start v (suc groups) bytes) ≡ broken place
        → (place ≡ start) × (end_of (steps_of (reading stage start value groups) (b ∷ bytes)) ≡ broken start)
    go (More v) q ih h = let w = ih v h in (w.0, ap end_of (one-step stage start value groups b bytes (More v) q) ∙ w.1)
    go (Whole n) q ih h = absurd (answer-not-broken h)
    go Wrong q ih h = (sym (same_place h), ap end_of (one-step stage start value groups b bytes Wrong q ∙ stays-stopped start bytes))

-- ---- a file is accepted or has a place: no other number comes back
pub never-refused : (state : State) (n : ℕ) → end_of state ≡ refuse n → ⊥
unfolding ends_of
never-refused (stopped place) n e = refused-not-broken (sym e)
never-refused (reading form start value groups) n e = refused-not-broken (sym e)
never-refused (reading count start value groups) n e = refused-not-broken (sym e)
never-refused (reading (bins zero done) start value groups) n e = answer-not-refused e
never-refused (reading (bins (suc left) done) start value groups) n e = refused-not-broken (sym e)

-- ---- the same by places of a file
module _ (stage : Stage) (file : List ℕ) (at : ℕ) where
  pub record Goes (f : Found) : Type 0 where
    pub low : (range_of stage).least ≤ f.value
    pub high : f.value ≤ (range_of stage).most
    pub on : read_from stage file at ≡ read_from (next_of stage f.value) file f.next

  pub goes : (f : Found) → number_at_of (range_of stage) file at ≡ give f → Goes f
  unfolding number_at_of read_from
  goes f e =
      let w = whole-number stage at 0 0 (drop at file) f e in
      let d : drop w.k (drop at file) ≡ drop f.next file = drop-drop w.k at file ∙ ap (λ (n : ℕ). drop n file) (sym (w.behind ∙ ap (λ (n : ℕ). n + w.k) (add-zero at))) in
      record {
        low = w.low;
        high = w.high;
        on = ap end_of (w.steps ∙ ap (steps_of (reading (next_of stage f.value) f.next 0 0)) d);
      }

  pub breaks : (place : ℕ) → ends_of stage at ≡ broken at → number_at_of (range_of stage) file at ≡ broken place → read_from stage file at ≡ broken at
  unfolding number_at_of read_from
  breaks place short e = (number-at-fault stage at 0 0 place (drop at file) short e).1

-- ---- the end
module _ (done file : List ℕ) (at : ℕ) where
  pub all_read : length file ≤ at → read_from (bins 0 done) file at ≡ give done
  unfolding read_from steps_of ends_of
  all_read h = rw (drop_of_length-le file h)

  pub trailing : at < length file → read_from (bins 0 done) file at ≡ broken at
  unfolding read_from range_of
  trailing h =
      ap end_of
      (ap (steps_of (reading (bins 0 done) at 0 0)) (drop-cons file at 0 h)
      ∙ one-step (bins 0 done) at 0 0 (get_or file at 0) (drop (suc at) file) Wrong (takes.none-comes 0 0 (get_or file at 0))
      ∙ stays-stopped at (drop (suc at) file))
