-- The reader stops at the first byte after which no continuation could be accepted: where it has not stopped, some
-- bytes more make a file that is accepted.
-- Assumes nothing.
use Prim.Native.Nat.{ℕ, zero, suc, ◌+◌, ◌^◌, ◌≤◌, ◌<◌}
use mathlib.Core.Path.{◌≡◌, refl, sym, ap, ◌∙◌, subst}
use mathlib.Core.List.{List, [], ◌∷◌, ◌++◌, append-nil}
use mathlib.Core.Logic.{◌⊎◌, inl, inr, ⊎_elim}
use native.Mathlib.Omega.{arith}
use lib.ListN.{length, replicate, length-replicate}
use Rattle.meaning.specs.Reply.{broken, give}
use Rattle.histogram.specs.declared.number.Taken.{Taken}
use Rattle.histogram.specs.declared.number.Taken.TheVariants.{More, Whole, Wrong}
use Rattle.histogram.specs.Number.{with_group, take_byte_of, numbers_bytes}
use Rattle.histogram.specs.File.{most_bins, Stage, form, count, bins, range_of, next_of, State, reading, stopped}
use Rattle.histogram.specs.File.{goes_on, step_of, steps_of, ends_of, end_of, read_of}
use Rattle.histogram.specs.Claims.{Below, Allowed, behind, Continues, Stops}
use Rattle.histogram.proofs.Tests.{below_or}
use Rattle.histogram.proofs.Weights.{weight-mono}
use Rattle.histogram.proofs.Takes as takes
use Rattle.histogram.proofs.Steps.{one-step, steps-append, stays-stopped}
use Rattle.histogram.proofs.Forth.{numbers-read}
use Rattle.histogram.proofs.Lists.{bins-allowed, bins-behind, bytes_below}

-- ---- what holds of the state at each byte: the next group can be a last one, a 1
abbrev Good : State → Type 0
Good (reading stage start value groups) = (groups ≡ 0 → value ≡ 0) × (0 < groups → value + 128 ^ groups ≤ (range_of stage).most)
Good (stopped place) = Unit {0}

good-step : (state : State) (byte : ℕ) → Good state → Good (step_of state byte)
unfolding step_of
good-step (stopped place) byte g = tt
good-step (reading stage start value groups) byte g = go (take_byte_of (range_of stage) value groups byte) refl
  where
    go : (t : Taken) → take_byte_of (range_of stage) value groups byte ≡ t → Good (goes_on stage start groups t)
    go (More v) q = ((λ (z : suc groups ≡ 0). absurd (omega arith)), (λ (_ : 0 < suc groups). (takes.tells (range_of stage) value groups byte (More v) q).room))
    go (Whole n) q = ((λ _. refl), (λ (h : 0 < 0). absurd (omega arith)))
    go Wrong q = tt

good-steps : (state : State) (bytes : List ℕ) → Good state → Good (steps_of state bytes)
unfolding steps_of
good-steps state [] g = g
good-steps state (b ∷ bytes) g = good-steps (step_of state b) bytes (good-step state b g)

-- ---- from the start of a number: the least numbers that may come
abbrev finish : Stage → List ℕ
finish form = 1 ∷ 2 ∷ 0 ∷ 0 ∷ []
finish count = 2 ∷ 0 ∷ 0 ∷ []
finish (bins left done) = replicate left 0

-- some bytes lead from a state to an accepted file
pub record Ends (state : State) : Type 0 where
  pub bytes : List ℕ
  pub are : Below 256 bytes
  pub xs : List ℕ
  pub accepted : end_of (steps_of state bytes) ≡ give xs

zeros-below : (n : ℕ) → Below (2 ^ 32) (replicate n 0)
zeros-below zero = tt
zeros-below (suc n) = (omega arith, zeros-below n)

-- numbers that may come, and behind which nothing more has to
ends_by : (stage : Stage) (start : ℕ) (ns : List ℕ) → Allowed stage ns → (xs : List ℕ) → behind stage ns ≡ bins 0 xs → Ends (reading stage start 0 0)
unfolding steps_of ends_of
ends_by stage start ns a xs e =
    record {
      bytes = numbers_bytes ns ++ [];
      are = rw append-nil (bytes_below ns);
      xs = xs;
      accepted = ap end_of (numbers-read stage start ns [] a) ∙ ap (λ (s : Stage). ends_of s (start + length (numbers_bytes ns))) e;
    }

ends-from : (stage : Stage) (start : ℕ) → Ends (reading stage start 0 0)
unfolding range_of next_of most_bins
ends-from form start = ends_by form start (finish form) ((omega arith, omega arith), ((omega arith, omega arith), ((omega arith, omega arith), ((omega arith, omega arith), tt)))) (0 ∷ 0 ∷ []) refl
ends-from count start = ends_by count start (finish count) ((omega arith, omega arith), ((omega arith, omega arith), ((omega arith, omega arith), tt))) (0 ∷ 0 ∷ []) refl
ends-from (bins left done) start =
    let zeros : List ℕ = replicate left 0 in
    let l : length zeros ≡ left = length-replicate left 0 in
    ends_by (bins left done) start zeros (subst (λ (n : ℕ). Allowed (bins n done) zeros) l (bins-allowed done zeros (zeros-below left))) (done ++ zeros) (ap (λ (n : ℕ). behind (bins n done) zeros) (sym l) ∙ bins-behind done zeros)

-- ---- from behind some groups of a number: a 1 ends it
low-least : (stage : Stage) → (range_of stage).least ≤ 2
unfolding range_of
low-least form = omega arith
low-least count = omega arith
low-least (bins zero done) = omega arith
low-least (bins (suc left) done) = omega arith

one_not_zero : ◌≡◌ {A = ℕ} 1 0 → ⊥
one_not_zero z = omega arith

ends-inside : (stage : Stage) (start value groups : ℕ) → 0 < groups → value + 128 ^ groups ≤ (range_of stage).most → Ends (reading stage start value groups)
ends-inside stage start value groups g h =
    let n = with_group value groups 1 in
    let m : 128 ^ 1 ≤ 128 ^ groups = weight-mono {g = 1} g in
    let l = low-least stage in
    let t : take_byte_of (range_of stage) value groups 1 ≡ Whole n = takes.ends (range_of stage) value groups 1 (omega arith) (λ z _. one_not_zero z) (omega arith) (omega arith) in
    let w = ends-from (next_of stage n) (start + suc groups) in
    record {
      bytes = 1 ∷ w.bytes;
      are = (omega arith, w.are);
      xs = w.xs;
      accepted = ap end_of (one-step stage start value groups 1 w.bytes (Whole n) t) ∙ w.accepted;
    }

ends-good : (stage : Stage) (start value groups : ℕ) → Good (reading stage start value groups) → Ends (reading stage start value groups)
ends-good stage start value groups g =
    ⊎_elim (λ (h : 0 < groups). ends-inside stage start value groups h (g.1 h))
    (λ (h : groups ≤ 0). let z : groups ≡ 0 = omega arith in rw (g.0 z, z) (ends-from stage start))
    (below_or 0 groups)

-- ---- THE CLAIM
pub continues-or-stops : (file : List ℕ) → Continues file ⊎ Stops file
unfolding read_of
continues-or-stops file = go (steps_of (reading form 0 0 0) file) refl (good-steps (reading form 0 0 0) file ((λ _. refl), (λ (h : 0 < 0). absurd (omega arith))))
  where
    go : (state : State) → steps_of (reading form 0 0 0) file ≡ state → Good state → Continues file ⊎ Stops file
    go (stopped place) e g = inr (record { place = place; stops = e })
    go (reading stage start value groups) e g =
        let w = ends-good stage start value groups g in
        inl (record { bytes = w.bytes; are = w.are; xs = w.xs; accepted = ap end_of (steps-append (reading form 0 0 0) file w.bytes ∙ ap (λ (s : State). steps_of s w.bytes) e) ∙ w.accepted })

-- once stopped, the answer stands whatever follows
pub stops-for-good : (file rest : List ℕ) (place : ℕ) → steps_of (reading form 0 0 0) file ≡ stopped place → read_of (file ++ rest) ≡ broken place
unfolding read_of
stops-for-good file rest place e = ap end_of (steps-append (reading form 0 0 0) file rest ∙ ap (λ (s : State). steps_of s rest) e ∙ stays-stopped place rest)
