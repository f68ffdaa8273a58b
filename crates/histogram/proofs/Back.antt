-- From what is read to what was written: where the reader goes on to accept a file, the bytes of the next number are
-- the writer's. Assumes nothing.
use Prim.Native.Nat.{ℕ, suc, ◌+◌, ◌*◌, ◌/◌, ◌%◌, ◌^◌, ◌≤◌, ◌<◌}
use mathlib.Core.Path.{◌≡◌, refl, sym, ap, ◌∙◌, subst}
use mathlib.Core.List.{List, [], ◌∷◌, ◌++◌}
use mathlib.Core.Logic.{◌⊎◌, inl, inr, ⊎_elim}
use native.Mathlib.Omega.{arith}
use lib.ListN.{length}
use Rattle.meaning.specs.Reply.{broken, give}
use Rattle.meaning.proofs.Replies.{answer-not-broken}
use Rattle.histogram.specs.declared.number.Taken.{Taken}
use Rattle.histogram.specs.declared.number.Taken.TheVariants.{More, Whole, Wrong}
use Rattle.histogram.specs.Number.{Range, with_group, take_byte_of, number_bytes}
use Rattle.histogram.specs.File.{Stage, range_of, next_of, reading, goes_on, steps_of, ends_of, end_of}
use Rattle.histogram.specs.Claims.{Below, In}
use Rattle.histogram.proofs.Tests.{below_or}
use Rattle.histogram.proofs.Weights.{weight-suc}
use Rattle.histogram.proofs.Takes as takes
use Rattle.histogram.proofs.Groups.{bytes-last, bytes-more}
use Rattle.histogram.proofs.Steps.{one-step, stays-stopped}
use Rattle.histogram.proofs.Forth.{first-value, number_read}

-- the bytes start with those of r, which makes a number of the range
pub record Starts (range : Range) (value groups : ℕ) (bytes : List ℕ) : Type 0 where
  pub r : ℕ
  pub rest : List ℕ
  pub parts : bytes ≡ number_bytes r ++ rest
  pub some : 0 < groups → 0 < r
  pub inside : In range (value + r * 128 ^ groups)

-- a group in front of a number
grown : (b r : ℕ) → 128 ≤ b → b < 256 → 0 < r → number_bytes (b % 128 + 128 * r) ≡ b ∷ number_bytes r
grown b r h l p =
    let q = b % 128 + 128 * r in
    let d : q / 128 ≡ r = omega arith in
    let m : 128 + q % 128 ≡ b = omega arith in
    bytes-more q (omega arith) ∙ rw (d, m)

grown-value : (value groups b r v : ℕ) → v ≡ with_group value groups b → value + (b % 128 + 128 * r) * 128 ^ groups ≡ v + r * 128 ^ suc groups
grown-value value groups b r v e = rw (weight-suc groups) (omega arith)

nonzero : (b : ℕ) → (b ≡ 0 → ⊥) → 0 < b
nonzero b n = ⊎_elim (λ (h : 0 < b). h) (λ (h : b ≤ 0). absurd (n (omega arith))) (below_or 0 b)

-- ---- a number of the range comes, or the reader stops where it starts
pub front : (stage : Stage) (start : ℕ) → ends_of stage start ≡ broken start → (value groups : ℕ) (bytes : List ℕ) → Below 256 bytes
    → Starts (range_of stage) value groups bytes ⊎ (end_of (steps_of (reading stage start value groups) bytes) ≡ broken start)
unfolding steps_of
front stage start short value groups [] b = inr short
front stage start short value groups (x ∷ bytes) b = go (take_byte_of (range_of stage) value groups x) refl (λ (v : ℕ). front stage start short v (suc groups) bytes b.1)
  where
    stepped : (t : Taken) → take_byte_of (range_of stage) value groups x ≡ t → end_of (steps_of (reading stage start value groups) (x ∷ bytes)) ≡ end_of (steps_of (goes_on stage start groups t) bytes)
    stepped t q = ap end_of (one-step stage start value groups x bytes t q)

    more : (v : ℕ) → take_byte_of (range_of stage) value groups x ≡ More v → Starts (range_of stage) v (suc groups) bytes → Starts (range_of stage) value groups (x ∷ bytes)
    more v q w =
        let t = takes.tells (range_of stage) value groups x (More v) q in
        let p : 0 < w.r = w.some (omega arith) in
        record {
          r = x % 128 + 128 * w.r;
          rest = w.rest;
          parts = ap (λ (l : List ℕ). x ∷ l) w.parts ∙ ap (λ (l : List ℕ). l ++ w.rest) (sym (grown x w.r t.follows b.0 p));
          some = λ (_ : 0 < groups). omega arith;
          inside = subst (In (range_of stage)) (sym (grown-value value groups x w.r v t.sum)) w.inside;
        }

    whole : (n : ℕ) → take_byte_of (range_of stage) value groups x ≡ Whole n → Starts (range_of stage) value groups (x ∷ bytes)
    whole n q =
        let t = takes.tells (range_of stage) value groups x (Whole n) q in
        let e : value + x * 128 ^ groups ≡ n = ap (λ (m : ℕ). value + m * 128 ^ groups) (sym (takes.last-low x t.last)) ∙ sym t.sum in
        record {
          r = x;
          rest = bytes;
          parts = ap (λ (l : List ℕ). l ++ bytes) (sym (bytes-last x t.last));
          some = λ (g : 0 < groups). nonzero x (λ (z : x ≡ 0). t.shortest z g);
          inside = rw e (t.low, t.high);
        }

    go : (t : Taken) → take_byte_of (range_of stage) value groups x ≡ t
        → ((v : ℕ) → Starts (range_of stage) v (suc groups) bytes ⊎ (end_of (steps_of (reading stage start v (suc groups)) bytes) ≡ broken start))
        → Starts (range_of stage) value groups (x ∷ bytes) ⊎ (end_of (steps_of (reading stage start value groups) (x ∷ bytes)) ≡ broken start)
    go (More v) q ih = ⊎_elim (λ (w : Starts (range_of stage) v (suc groups) bytes). inl (more v q w)) (λ (e : end_of (steps_of (reading stage start v (suc groups)) bytes) ≡ broken start). inr (stepped (More v) q ∙ e)) (ih v)
    go (Whole n) q ih = inl (whole n q)
    go Wrong q ih = inr (stepped Wrong q ∙ ap end_of (stays-stopped start bytes))

-- ---- from the start of a number on: the number is n, and the file is read on behind it
pub record Next (stage : Stage) (start : ℕ) (bytes : List ℕ) : Type 0 where
  pub n : ℕ
  pub rest : List ℕ
  pub parts : bytes ≡ number_bytes n ++ rest
  pub inside : In (range_of stage) n
  pub on : steps_of (reading stage start 0 0) bytes ≡ steps_of (reading (next_of stage n) (start + length (number_bytes n)) 0 0) rest

pub next-or-broken : (stage : Stage) (start : ℕ) → ends_of stage start ≡ broken start → (bytes : List ℕ) → Below 256 bytes → Next stage start bytes ⊎ (end_of (steps_of (reading stage start 0 0) bytes) ≡ broken start)
next-or-broken stage start short bytes b = ⊎_elim (λ (w : Starts (range_of stage) 0 0 bytes). inl (next w)) inr (front stage start short 0 0 bytes b)
  where
    next : Starts (range_of stage) 0 0 bytes → Next stage start bytes
    next w =
        let i : In (range_of stage) w.r = rw first-value at w.inside in
        record {
          n = w.r;
          rest = w.rest;
          parts = w.parts;
          inside = i;
          on = ap (steps_of (reading stage start 0 0)) w.parts ∙ number_read stage start w.r w.rest i;
        }

-- where the file is accepted, a number comes
pub next-number : (stage : Stage) (start : ℕ) → ends_of stage start ≡ broken start → (bytes xs : List ℕ) → Below 256 bytes → end_of (steps_of (reading stage start 0 0) bytes) ≡ give xs → Next stage start bytes
next-number stage start short bytes xs b e =
    ⊎_elim (λ (w : Next stage start bytes). w) (λ (h : end_of (steps_of (reading stage start 0 0) bytes) ≡ broken start). absurd (answer-not-broken (sym e ∙ h))) (next-or-broken stage start short bytes b)
