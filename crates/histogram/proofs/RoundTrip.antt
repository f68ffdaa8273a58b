-- Reading what was written gives the histogram back, and each accepted file is what the writer writes. Assumes nothing.
use Prim.Native.Nat.{ℕ, zero, suc, ◌+◌, ◌^◌}
use mathlib.Core.Path.{◌≡◌, refl, sym, ap, ◌∙◌, subst}
use mathlib.Core.List.{List, [], ◌∷◌, ◌++◌, append-nil}
use native.Mathlib.Omega.{arith}
use lib.ListN.{length}
use lib.Seq.{append_snoc}
use Rattle.meaning.specs.Reply.{give}
use Rattle.meaning.proofs.Replies.{same_answer, answer-not-broken}
use Rattle.histogram.specs.declared.number.Taken.TheVariants.{Wrong}
use Rattle.histogram.specs.Number.{number_bytes, numbers_bytes}
use Rattle.histogram.specs.File.{Stage, form, count, bins, range_of, next_of, reading, steps_of, ends_of, end_of}
use Rattle.histogram.specs.File.{read_of, write_of}
use Rattle.histogram.specs.Claims.{Below, Histogram}
use Rattle.histogram.proofs.Forth.{numbers-read}
use Rattle.histogram.proofs.Takes.{none-comes}
use Rattle.histogram.proofs.Steps.{one-step, stays-stopped}
use Rattle.histogram.proofs.Lists.{below_right, file-allowed, file-behind}
use Rattle.histogram.proofs.Back.{next-number}

module _ (xs : List ℕ) (h : Histogram xs) where
  -- behind the file of the bins nothing more has to come
  pub file-read : (rest : List ℕ) → steps_of (reading form 0 0 0) (write_of xs ++ rest) ≡ steps_of (reading (bins 0 xs) (0 + length (write_of xs)) 0 0) rest
  unfolding write_of
  file-read rest = numbers-read form 0 (1 ∷ length xs ∷ xs) rest (file-allowed xs h) ∙ ap (λ (s : Stage). steps_of (reading s (0 + length (write_of xs)) 0 0) rest) (file-behind xs)

  pub read-written : read_of (write_of xs) ≡ give xs
  unfolding read_of steps_of ends_of
  read-written = ap end_of (ap (steps_of (reading form 0 0 0)) (sym (append-nil (write_of xs))) ∙ file-read [])

-- ---- the other way
-- the bytes are those of so many bins
record Bins (left : ℕ) (done bytes xs : List ℕ) : Type 0 where
  ys : List ℕ
  many : length ys ≡ left
  fit : Below (2 ^ 32) ys
  all : xs ≡ done ++ ys
  written : bytes ≡ numbers_bytes ys

bins-back : (left : ℕ) (done : List ℕ) (start : ℕ) (bytes xs : List ℕ) → Below 256 bytes → end_of (steps_of (reading (bins left done) start 0 0) bytes) ≡ give xs → Bins left done bytes xs
unfolding steps_of ends_of range_of next_of numbers_bytes
bins-back zero done start [] xs b e = record {
  ys = [];
  many = refl;
  fit = tt;
  all = sym (same_answer e) ∙ sym (append-nil done);
  written = refl;
}
bins-back zero done start (x ∷ bytes) xs b e = absurd (answer-not-broken (sym e ∙ ap end_of (one-step (bins 0 done) start 0 0 x bytes Wrong (none-comes 0 0 x) ∙ stays-stopped start bytes)))
bins-back (suc left) done start bytes xs b e =
    let w = next-number (bins (suc left) done) start refl bytes xs b e in
    let t = bins-back left (done ++ (w.n ∷ [])) (start + length (number_bytes w.n)) w.rest xs (below_right 256 (number_bytes w.n) w.rest (subst (Below 256) w.parts b)) (sym (ap end_of w.on) ∙ e) in
    let h = w.inside.1 in
    record {
      ys = w.n ∷ t.ys;
      many = ap suc t.many;
      fit = (omega arith, t.fit);
      all = t.all ∙ append_snoc done w.n t.ys;
      written = w.parts ∙ ap (λ (l : List ℕ). number_bytes w.n ++ l) t.written;
    }

-- what an accepted file tells of its bins
pub record Accepted (file xs : List ℕ) : Type 0 where
  pub holds : Histogram xs
  pub written : file ≡ write_of xs

pub written_read : (file xs : List ℕ) → Below 256 file → read_of file ≡ give xs → Accepted file xs
unfolding read_of ends_of range_of next_of write_of numbers_bytes
written_read file xs b e =
    let f = next-number form 0 refl file xs b e in
    let bf = below_right 256 (number_bytes f.n) f.rest (subst (Below 256) f.parts b) in
    let ef = sym (ap end_of f.on) ∙ e in
    let c = next-number count (0 + length (number_bytes f.n)) refl f.rest xs bf ef in
    let bc = below_right 256 (number_bytes c.n) c.rest (subst (Below 256) c.parts bf) in
    let t = bins-back c.n [] (0 + length (number_bytes f.n) + length (number_bytes c.n)) c.rest xs bc (sym (ap end_of c.on) ∙ ef) in
    let one : f.n ≡ 1 = let l = f.inside.0 in let h = f.inside.1 in omega arith in
    let n : c.n ≡ length xs = sym (ap length t.all ∙ t.many) in
    record {
      holds = record { two = omega (arith, c.inside.0); most = omega (arith, c.inside.1); fit = subst (Below (2 ^ 32)) (sym t.all) t.fit };
      written =
          f.parts ∙ ap (λ (l : List ℕ). number_bytes f.n ++ l) (c.parts ∙ ap (λ (l : List ℕ). number_bytes c.n ++ l) (t.written ∙ ap numbers_bytes (sym t.all)))
          ∙ ap (λ (k : ℕ). number_bytes k ++ (number_bytes c.n ++ numbers_bytes xs)) one ∙ ap (λ (k : ℕ). number_bytes 1 ++ (number_bytes k ++ numbers_bytes xs)) n;
    }
