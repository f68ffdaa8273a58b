-- THE NUMBERS OF A COMMAND LINE. Assumes nothing.
use Prim.Native.Nat.{ℕ, ◌^◌, ◌≤◌, ◌<◌}
use mathlib.Core.Path.{◌≡◌, ap, ◌∙◌}
use mathlib.Core.Logic.{◌⊎◌, inl, inr, ⊎_elim}
use mathlib.Core.Bool.{false}
use mathlib.Core.List.{List, [], ◌∷◌, ◌++◌, append-nil}
use lib.ListN.{length}
use lib.Ieee.{Float, binary64, round}
use Rattle.histogram.proofs.Tests.{below_or}
use Rattle.listing.specs.Decimal.{decimal_of, value_of}
use Rattle.listing.proofs.Decimals as listing
use Rattle.listing.proofs.Theorems as listed
use Rattle.arguments.specs.Numbers.{point, before, behind, is_number, read_decimal_of, read_whole_of}
use Rattle.arguments.specs.Claims.{Number, Pointed}
use Rattle.arguments.proofs.Words.{pointed, plain, behind-digits}
use Rattle.arguments.proofs.Values.{digits-front}
use Rattle.arguments.proofs.Quotients.{number_is, given, rounded, given-quotient, whole_is}
use Rattle.std.specs.Prelude.{Some}

-- ---- a decimal is the double nearest to its digits over the power of ten, a tie to the even one
pub nearest : (word : List ℕ) (x : Float) → read_decimal_of word ≡ Some x
    → x ≡ round binary64 false (value_of 0 (before word ++ behind word)) (10 ^ length (behind word))
unfolding read_decimal_of
nearest word x e = (given-quotient (before word) (behind word) x e).1

-- ---- what is accepted: digits, with a point or without
pub accepts-whole : (a : List ℕ) → Number a → read_decimal_of a ≡ Some (round binary64 false (value_of 0 a) 1)
unfolding read_decimal_of before behind
accepts-whole a n =
    let s : (before a ≡ a) × (behind a ≡ []) = simp append-nil at (behind-digits a [] n.digits) in
    let r = simp append-nil at (rounded a [] (simp append-nil n)) in
    rw (s.0, s.1) r

pub accepts-point : (a b : List ℕ) → Number (a ++ b)
    → read_decimal_of (a ++ (point ∷ b)) ≡ Some (round binary64 false (value_of 0 (a ++ b)) (10 ^ length b))
unfolding read_decimal_of before behind
accepts-point a b n =
    let s = behind-digits a (point ∷ b) (digits-front a b n.digits) in
    rw (s.0, s.1, append-nil) (rounded a b n)

-- ---- and nothing else
pub accepts-only : (word : List ℕ) (x : Float) → read_decimal_of word ≡ Some x → Number word ⊎ Pointed word
unfolding read_decimal_of
accepts-only word x e = ⊎_elim with-point without (below_or (length (before word)) (length word))
  where
    number : Number (before word ++ behind word)
    number = (given-quotient (before word) (behind word) x e).0

    with-point : length (before word) < length word → Number word ⊎ Pointed word
    with-point h = inr (record { whole = before word; places = behind word; parts = pointed word h; number = number })

    without : length word ≤ length (before word) → Number word ⊎ Pointed word
    without h = let p = plain word h in inl (rw (p.0, p.1, append-nil) at number)

-- ---- a whole number
pub accepts-digits : (word : List ℕ) → Number word → read_whole_of word ≡ Some (value_of 0 word)
accepts-digits = whole_is

pub digits-only : (word : List ℕ) (n : ℕ) → read_whole_of word ≡ Some n → Number word
unfolding read_whole_of
digits-only word n e = number_is word (given (is_number word) (value_of 0 word) n e).0

-- the listing's digits of a number are read back
pub read_back : (n : ℕ) → n < 10 ^ 15 → read_whole_of (decimal_of n) ≡ Some n
read_back n h =
    accepts-digits (decimal_of n)
    (record { digits = listed.are-digits n; one = listing.digits-some n; most = listing.digits-few 14 n h })
    ∙ ap Some (listed.value-back n)
