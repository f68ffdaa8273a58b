-- `histogram::reader::long_bin_at` meets its contract: what stands behind each group, by the laws of `Numbers`.
-- Assumes nothing.
use Prim.Native.Nat.{ℕ, ◌+◌, ◌*◌, ◌%◌, ◌≤◌, ◌<◌}
use mathlib.Core.Path.{◌≡◌, refl, sym, ap}
use mathlib.Core.List.{List}
use native.Mathlib.Omega.{arith}
use lib.ListN.{length, get_or}
use Rattle.histogram.proofs.Numbers.{Behind, behind-none, one_more, the_last}
use Rattle.histogram.proofs.reader.long_bin_at.Goals as goal

module _ (file : List ℕ) (at : ℕ) (h : at + 4 < length file) (l : 128 ≤ get_or file at 0) where
  abbrev byte : ℕ → ℕ
  byte k = get_or file (at + k) 0

  -- what the first one, two, three and four groups add up to
  abbrev one : ℕ
  one = get_or file at 0 % 128

  abbrev two : ℕ
  two = one + byte 1 % 128 * 128

  abbrev three : ℕ
  three = two + byte 2 % 128 * 16384

  abbrev four : ℕ
  four = three + byte 3 % 128 * 2097152

  abbrev After : ℕ → ℕ → Type 0
  After k v = Behind 4294967295 file at k v

  after-one : After 1 one
  after-one =
      let e : at ≡ at + 0 = omega arith in
      one_more _ file at 0 0 (get_or file at 0) (behind-none _ file at) (omega arith) (ap (λ (j : ℕ). get_or file j 0) e) one (omega arith) l (omega arith)

  module _ (m : 128 ≤ byte 1) where
    after-two : After 2 two
    after-two = one_more _ file at 1 one (byte 1) after-one (omega arith) refl two (omega arith) m (omega arith)

    module _ (n : 128 ≤ byte 2) where
      after-three : After 3 three
      after-three = one_more _ file at 2 two (byte 2) after-two (omega arith) refl three (omega arith) n (omega arith)

      after-four : 128 ≤ byte 3 → After 4 four
      after-four o = one_more _ file at 3 three (byte 3) after-three (omega arith) refl four (omega arith) o (omega arith)

pub returns-then-second-gt0 : goal.returns-then-second-gt0
returns-then-second-gt0 c =
    let a = c.args in
    sym (the_last _ _ _ _ _ _ (after-one a.file.now a.at c.requires.0 c.requires.1) (omega arith) refl _ (omega arith) c.if-second-gt0.true c.if-second-lt128.true (omega arith))

pub returns-then-third-gt0 : goal.returns-then-third-gt0
returns-then-third-gt0 c =
    let a = c.args in
    sym (the_last _ _ _ _ _ _ (after-two a.file.now a.at c.requires.0 c.requires.1 c.if-second-lt128.false) (omega arith) refl _ (omega arith) c.if-third-gt0.true c.if-third-lt128.true (omega arith))

pub returns-then-fourth-gt0 : goal.returns-then-fourth-gt0
returns-then-fourth-gt0 c =
    let a = c.args in
    sym (the_last _ _ _ _ _ _ (after-three a.file.now a.at c.requires.0 c.requires.1 c.if-second-lt128.false c.if-third-lt128.false) (omega arith) refl _ (omega arith) c.if-fourth-gt0.true c.if-fourth-lt128.true (omega arith))

pub returns-then-fifth-gt0 : goal.returns-then-fifth-gt0
returns-then-fifth-gt0 c =
    let a = c.args in
    sym (the_last _ _ _ _ _ _ (after-four a.file.now a.at c.requires.0 c.requires.1 c.if-second-lt128.false c.if-third-lt128.false c.if-fourth-lt128.false) (omega arith) refl _ (omega arith) c.if-fifth-gt0.true (omega arith) (omega arith))
