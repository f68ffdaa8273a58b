-- The place of a refusal is where the first number at fault starts, in both directions. Assumes nothing.
use Prim.Native.Nat.{ℕ, zero, suc, ◌+◌, ◌≤◌, ◌<◌}
use mathlib.Core.Path.{◌≡◌, refl, sym, ap, ◌∙◌, subst}
use mathlib.Core.List.{List, [], ◌∷◌, ◌++◌, append_assoc}
use mathlib.Core.Logic.{◌⊎◌, inl, inr, ⊎_elim}
use native.Mathlib.Nat.{add-zero, zero-add, le_refl}
use native.Mathlib.Omega.{arith}
use lib.ListN.{length, length-append}
use Rattle.meaning.specs.Reply.{broken}
use Rattle.meaning.proofs.Replies.{same_place, answer-not-broken}
use Rattle.histogram.specs.declared.number.Taken.{Taken}
use Rattle.histogram.specs.declared.number.Taken.TheVariants.{More, Whole, Wrong}
use Rattle.histogram.specs.Number.{take_byte_of, number_bytes, numbers_bytes}
use Rattle.histogram.specs.File.{Stage, form, count, bins, range_of, next_of, reading, steps_of, ends_of, end_of}
use Rattle.histogram.specs.File.{read_of}
use Rattle.histogram.specs.Claims.{Below, Allowed, behind, Complete, None, FirstFault}
use Rattle.histogram.proofs.Takes.{none-comes}
use Rattle.histogram.proofs.Groups.{bytes-some}
use Rattle.histogram.proofs.Steps.{one-step, stays-stopped}
use Rattle.histogram.proofs.Forth.{number_read, numbers-read}
use Rattle.histogram.proofs.Lists.{below_right}
use Rattle.histogram.proofs.Back.{Next, next-or-broken}

-- ---- a stage: a number has to come, or nothing more may
record All (stage : Stage) : Type 0 where
  done : List ℕ
  is : stage ≡ bins 0 done

open-or-all : (stage : Stage) → ((start : ℕ) → ends_of stage start ≡ broken start) ⊎ All stage
unfolding ends_of
open-or-all form = inl (λ (start : ℕ). refl)
open-or-all count = inl (λ (start : ℕ). refl)
open-or-all (bins zero done) = inr (record { done = done; is = refl })
open-or-all (bins (suc left) done) = inl (λ (start : ℕ). refl)

open-incomplete : (stage : Stage) (start : ℕ) → ends_of stage start ≡ broken start → Complete stage → ⊥
unfolding ends_of
open-incomplete form start e c = c
open-incomplete count start e c = c
open-incomplete (bins zero done) start e c = answer-not-broken e
open-incomplete (bins (suc left) done) start e c = c

-- bytes behind the last bin
after-all : (done : List ℕ) (start b : ℕ) (bytes : List ℕ) → end_of (steps_of (reading (bins 0 done) start 0 0) (b ∷ bytes)) ≡ broken start
unfolding range_of
after-all done start b bytes = ap end_of (one-step (bins 0 done) start 0 0 b bytes Wrong (none-comes 0 0 b) ∙ stays-stopped start bytes)

-- ---- from a fault to its place
broken-here : (stage : Stage) (start : ℕ) (rest : List ℕ) → Below 256 rest → None (range_of stage) rest → (rest ≡ [] → Complete stage → ⊥) → end_of (steps_of (reading stage start 0 0) rest) ≡ broken start
broken-here stage start rest b none more = ⊎_elim opens all (open-or-all stage)
  where
    opens : ((s : ℕ) → ends_of stage s ≡ broken s) → end_of (steps_of (reading stage start 0 0) rest) ≡ broken start
    opens short =
        ⊎_elim (λ (w : Next stage start rest). absurd (none w.n w.rest w.inside w.parts))
        (λ (e : end_of (steps_of (reading stage start 0 0) rest) ≡ broken start). e)
        (next-or-broken stage start (short start) rest b)

    all : All stage → end_of (steps_of (reading stage start 0 0) rest) ≡ broken start
    all a = rw a.is (go rest (λ (e : rest ≡ []). more e (rw a.is tt)))
      where
        go : (bytes : List ℕ) → (bytes ≡ [] → ⊥) → end_of (steps_of (reading (bins 0 a.done) start 0 0) bytes) ≡ broken start
        go [] n = absurd (n refl)
        go (x ∷ bytes) n = after-all a.done start x bytes

pub fault-refused : (file : List ℕ) (place : ℕ) → Below 256 file → FirstFault file place → read_of file ≡ broken place
unfolding read_of
fault-refused file place b f =
    let s : steps_of (reading form 0 0 0) file ≡ steps_of (reading (behind form f.numbers) (0 + length (numbers_bytes f.numbers)) 0 0) f.rest = ap (steps_of (reading form 0 0 0)) f.parts ∙ numbers-read form 0 f.numbers f.rest f.allowed in
    ap end_of s
    ∙ broken-here (behind form f.numbers) (0 + length (numbers_bytes f.numbers)) f.rest (below_right 256 (numbers_bytes f.numbers) f.rest (subst (Below 256) f.parts b)) f.none f.more
    ∙ ap broken (zero-add (length (numbers_bytes f.numbers)) ∙ sym f.start)

-- ---- the place of a fault does not lie before the number being read
ends-place : (stage : Stage) (start place : ℕ) → ends_of stage start ≡ broken place → start ≡ place
unfolding ends_of
ends-place form start place e = same_place e
ends-place count start place e = same_place e
ends-place (bins zero done) start place e = absurd (answer-not-broken e)
ends-place (bins (suc left) done) start place e = same_place e

forward : (stage : Stage) (start value groups place : ℕ) (bytes : List ℕ) → end_of (steps_of (reading stage start value groups) bytes) ≡ broken place → start ≤ place
unfolding steps_of
forward stage start value groups place [] e = let s = ends-place stage start place e in omega arith
forward stage start value groups place (b ∷ bytes) e =
    go (take_byte_of (range_of stage) value groups b) refl (λ (v : ℕ). forward stage start v (suc groups) place bytes) (λ (n : ℕ). forward (next_of stage n) (start + suc groups) 0 0 place bytes)
  where
    go : (t : Taken) → take_byte_of (range_of stage) value groups b ≡ t
        → ((v : ℕ) → end_of (steps_of (reading stage start v (suc groups)) bytes) ≡ broken place → start ≤ place)
        → ((n : ℕ) → end_of (steps_of (reading (next_of stage n) (start + suc groups) 0 0) bytes) ≡ broken place → start + suc groups ≤ place) → start ≤ place
    go (More v) q im iw = im v (sym (ap end_of (one-step stage start value groups b bytes (More v) q)) ∙ e)
    go (Whole n) q im iw = let h = iw n (sym (ap end_of (one-step stage start value groups b bytes (Whole n) q)) ∙ e) in omega arith
    go Wrong q im iw = let s : start ≡ place = same_place (sym (ap end_of (one-step stage start value groups b bytes Wrong q ∙ stays-stopped start bytes)) ∙ e) in omega arith

-- ---- from a place to its fault
-- the first fault, from the start of a number on
record FaultFrom (stage : Stage) (start : ℕ) (bytes : List ℕ) (place : ℕ) : Type 0 where
  numbers : List ℕ
  rest : List ℕ
  parts : bytes ≡ numbers_bytes numbers ++ rest
  allowed : Allowed stage numbers
  at : place ≡ start + length (numbers_bytes numbers)
  none : None (range_of (behind stage numbers)) rest
  more : rest ≡ [] → Complete (behind stage numbers) → ⊥

module _ (stage : Stage) (start : ℕ) (bytes : List ℕ) (place : ℕ) (e : end_of (steps_of (reading stage start 0 0) bytes) ≡ broken place) where
  -- no number comes
  here : place ≡ start → (bytes ≡ [] → Complete stage → ⊥) → FaultFrom stage start bytes place
  unfolding numbers_bytes
  here p more = record {
    numbers = [];
    rest = bytes;
    parts = refl;
    allowed = tt;
    at = p ∙ sym (add-zero start);
    none = no_number;
    more = more;
  }
    where
      no_number : None (range_of stage) bytes
      no_number n rest i q =
          let o : end_of (steps_of (reading (next_of stage n) (start + length (number_bytes n)) 0 0) rest) ≡ broken place = sym (ap end_of (ap (steps_of (reading stage start 0 0)) q ∙ number_read stage start n rest i)) ∙ e in
          let l = forward (next_of stage n) (start + length (number_bytes n)) 0 0 place rest o in
          let k = bytes-some n in
          omega arith

  -- a number comes, and then the first fault
  there : (w : Next stage start bytes) → FaultFrom (next_of stage w.n) (start + length (number_bytes w.n)) w.rest place → FaultFrom stage start bytes place
  unfolding numbers_bytes
  there w f =
      record {
        numbers = w.n ∷ f.numbers;
        rest = f.rest;
        parts = w.parts ∙ ap (λ (l : List ℕ). number_bytes w.n ++ l) f.parts ∙ sym (append_assoc (number_bytes w.n) (numbers_bytes f.numbers) f.rest);
        allowed = (w.inside, f.allowed);
        at = f.at ∙ placed (number_bytes w.n) (numbers_bytes f.numbers);
        none = f.none;
        more = f.more;
      }
    where
      placed : (xs ys : List ℕ) → start + length xs + length ys ≡ start + length (xs ++ ys)
      placed xs ys = let l = length-append xs ys in omega arith

  -- where nothing more may come, a byte has
  behind-all : All stage → FaultFrom stage start bytes place
  unfolding steps_of ends_of
  behind-all a = go bytes (rw a.is at e) refl
    where
      go : (xs : List ℕ) → end_of (steps_of (reading (bins 0 a.done) start 0 0) xs) ≡ broken place → bytes ≡ xs → FaultFrom stage start bytes place
      go [] q p = absurd (answer-not-broken q)
      go (x ∷ xs) q p = here (same_place (sym q ∙ after-all a.done start x xs)) (λ (z : bytes ≡ []) (_ : Complete stage). let n : 0 ≡ suc (length xs) = ap length (sym z ∙ p) in omega arith)

-- a number takes a byte at least
shorter : (bytes rest : List ℕ) (n : ℕ) → bytes ≡ number_bytes n ++ rest → length rest < length bytes
shorter bytes rest n e = let k = bytes-some n in let l = ap length e ∙ length-append (number_bytes n) rest in omega arith

-- where the fault is found behind a number, it is found
found : (stage : Stage) (start : ℕ) (bytes : List ℕ) (place : ℕ) → Below 256 bytes → end_of (steps_of (reading stage start 0 0) bytes) ≡ broken place
    → ((next : Stage) (at : ℕ) (rest : List ℕ) → length rest < length bytes → Below 256 rest → end_of (steps_of (reading next at 0 0) rest) ≡ broken place → FaultFrom next at rest place) → FaultFrom stage start bytes place
found stage start bytes place b e ih = ⊎_elim opens (behind-all stage start bytes place e) (open-or-all stage)
  where
    goes : Next stage start bytes → FaultFrom stage start bytes place
    goes w =
        there stage start bytes place e w
        (ih (next_of stage w.n) (start + length (number_bytes w.n)) w.rest (shorter bytes w.rest w.n w.parts) (below_right 256 (number_bytes w.n) w.rest (subst (Below 256) w.parts b)) (sym (ap end_of w.on) ∙ e))

    opens : ((s : ℕ) → ends_of stage s ≡ broken s) → FaultFrom stage start bytes place
    opens short =
        ⊎_elim goes (λ (h : end_of (steps_of (reading stage start 0 0) bytes) ≡ broken start). here stage start bytes place e (same_place (sym e ∙ h)) (λ (_ : bytes ≡ []). open-incomplete stage start (short start)))
        (next-or-broken stage start (short start) bytes b)

-- in at most k bytes
find : (place k : ℕ) (stage : Stage) (start : ℕ) (bytes : List ℕ) → length bytes ≤ k → Below 256 bytes → end_of (steps_of (reading stage start 0 0) bytes) ≡ broken place → FaultFrom stage start bytes place
find place zero stage start bytes l b e = found stage start bytes place b e (λ (next : Stage) (at : ℕ) (rest : List ℕ) (h : length rest < length bytes) (_ : Below 256 rest) (_ : end_of (steps_of (reading next at 0 0) rest) ≡ broken place). absurd (omega arith))
find place (suc k) stage start bytes l b e = found stage start bytes place b e (λ (next : Stage) (at : ℕ) (rest : List ℕ) (h : length rest < length bytes). find place k next at rest (omega arith))

pub refused-fault : (file : List ℕ) (place : ℕ) → Below 256 file → read_of file ≡ broken place → FirstFault file place
unfolding read_of
refused-fault file place b e =
    let f = find place (length file) form 0 file (le_refl (length file)) b e in
    record {
      numbers = f.numbers;
      rest = f.rest;
      parts = f.parts;
      allowed = f.allowed;
      start = f.at ∙ zero-add (length (numbers_bytes f.numbers));
      none = f.none;
      more = f.more;
    }
