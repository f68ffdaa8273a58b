-- A number of a file, a byte at a time: what a turn of the reading loop does. Assumes nothing.
use Prim.Native.Nat.{ℕ, suc, ◌+◌, ◌^◌, ◌≤◌, ◌<◌}
use mathlib.Core.Path.{◌≡◌, sym, ap, ◌∙◌, subst}
use mathlib.Core.List.{List}
use native.Mathlib.Omega.{arith}
use lib.ListN.{length, get_or, drop, drop_of_length-le}
use lib.Seq.{drop-cons}
use Rattle.meaning.specs.Reply.{broken, give}
use Rattle.histogram.specs.declared.number.Taken.{Taken}
use Rattle.histogram.specs.declared.number.Taken.TheVariants.{More, Whole}
use Rattle.histogram.specs.Number.{Range, between, with_group, take_byte_of, found_by, number_from, number_at_of}
use Rattle.histogram.proofs.Takes.{ends, goes_on}

module _ (range : Range) (file : List ℕ) (start value groups at : ℕ) where
  pub byte_more : (t : Taken) → at < length file → t ≡ take_byte_of range value groups (get_or file at 0)
      → number_from range start value groups (drop at file) ≡ found_by t start (start + suc groups) (λ v. number_from range start v (suc groups) (drop (suc at) file))
  unfolding number_from
  byte_more t h e = rw (drop-cons file at 0 h, e)

  pub no_more : length file ≤ at → number_from range start value groups (drop at file) ≡ broken start
  unfolding number_from
  no_more h = rw (drop_of_length-le file h)

-- a number of one group
pub one_byte : (most : ℕ) (file : List ℕ) (at : ℕ) → at < length file → get_or file at 0 < 128 → get_or file at 0 ≤ most → number_at_of (between 0 most) file at ≡ give (record { value = get_or file at 0; next = at + 1 })
unfolding number_at_of
one_byte most file at h l m =
    let b = get_or file at 0 in
    let e : b ≡ with_group 0 0 b = omega arith in
    let t : take_byte_of (between 0 most) 0 0 b ≡ Whole (with_group 0 0 b) = ends (between 0 most) 0 0 b l (λ (_ : b ≡ 0) (z : 0 < 0). omega arith) (omega arith) (omega arith) in
    byte_more (between 0 most) file at 0 0 at (Whole b) h (ap Whole e ∙ sym t)

-- a number of several groups, one after the other
module _ (most : ℕ) (file : List ℕ) (at : ℕ) where
  abbrev range : Range
  range = between 0 most

  -- behind k groups that add up to v
  abbrev pub Behind : ℕ → ℕ → Type 0
  Behind k v = number_at_of range file at ≡ number_from range at v k (drop (at + k) file)

  pub behind-none : Behind 0 0
  unfolding number_at_of
  behind-none = let e : at ≡ at + 0 = omega arith in ap (λ (j : ℕ). number_from range at 0 0 (drop j file)) e

  module _ (k v byte : ℕ) (r : Behind k v) (h : at + k < length file) (e : byte ≡ get_or file (at + k) 0) where
    pub one_more : (w : ℕ) → w ≡ with_group v k byte → 128 ≤ byte → w + 128 ^ suc k ≤ most → Behind (suc k) w
    one_more w s l m =
        let p : suc (at + k) ≡ at + suc k = omega arith in
        let g : take_byte_of range v k byte ≡ More w = goes_on range v k byte l (subst (λ (n : ℕ). n + 128 ^ suc k ≤ most) s m) ∙ ap More (sym s) in
        r ∙ byte_more range file at v k (at + k) (More w) h (sym g ∙ ap (take_byte_of range v k) e) ∙ ap (λ (j : ℕ). number_from range at w (suc k) (drop j file)) p

    pub the_last : (n : ℕ) → n ≡ with_group v k byte → 0 < byte → byte < 128 → n ≤ most → number_at_of range file at ≡ give (record { value = n; next = at + suc k })
    the_last n s z l m =
        let g : take_byte_of range v k byte ≡ Whole n = ends range v k byte l (λ (y : byte ≡ 0) (_ : 0 < k). omega arith) (omega arith) (subst (λ (n : ℕ). n ≤ most) s m) ∙ ap Whole (sym s) in
        r ∙ byte_more range file at v k (at + k) (Whole n) h (sym g ∙ ap (take_byte_of range v k) e)
