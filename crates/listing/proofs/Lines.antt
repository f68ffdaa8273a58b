-- The lines of a listing, taken apart at a count, and how long they are. Assumes nothing.
use Prim.Native.Nat.{ℕ, suc, ◌+◌, ◌*◌, ◌^◌, ◌≤◌, ◌<◌}
use mathlib.Core.Path.{◌≡◌, ap, ◌∙◌}
use mathlib.Core.List.{List, [], ◌∷◌, ◌++◌}
use native.Mathlib.Numerals.{add-one}
use native.Mathlib.Omega.{arith}
use lib.ListN.{length, get_or, drop, length-append, drop_of_length-le}
use lib.Seq.{drop-cons}
use Rattle.histogram.specs.Claims.{Below}
use Rattle.listing.specs.Decimal.{decimal_of}
use Rattle.listing.specs.Listing.{ascii, line_of, row_of, rows_of, listing_of, refusal_of}
use Rattle.listing.proofs.Decimals.{digits-few, twenty}

-- ---- how long each is
pub line-length : (word : List ℕ) (n : ℕ) → length (line_of word n) ≡ length word + (length (decimal_of n) + 1)
unfolding line_of
line-length word n = simp length-append

pub row-length : (count n : ℕ) → length (row_of count n) ≡ length (decimal_of count) + length (decimal_of n) + 2
unfolding row_of
row-length count n = let a = length-append (decimal_of count) (line_of (ascii " ") n) in let l = line-length (ascii " ") n in omega arith

pub listing-length : (xs : List ℕ) → length (listing_of xs) ≡ 6 + length (decimal_of (length xs)) + length (rows_of 1 xs)
unfolding listing_of
listing-length xs = let a = length-append (line_of (ascii "bins ") (length xs)) (rows_of 1 xs) in let l = line-length (ascii "bins ") (length xs) in omega arith

pub refusal-length : (place : ℕ) → length (refusal_of place) ≡ 14 + length (decimal_of place)
unfolding refusal_of
refusal-length place = let l = line-length (ascii "refused 3 at ") place in omega arith

-- a row of numbers of 64 bits
pub row-few : (count n : ℕ) → count < 2 ^ 64 → n < 2 ^ 64 → length (row_of count n) ≤ 42
row-few count n c h = let l = row-length count n in let a = twenty count c in let d = twenty n h in omega arith

-- ---- from a bin on
module _ (xs : List ℕ) (k : ℕ) where
  pub rows-from : k < length xs → rows_of (suc k) (drop k xs) ≡ row_of (suc k) (get_or xs k 0) ++ rows_of (suc (suc k)) (drop (suc k) xs)
  unfolding rows_of
  rows-from h = rw (drop-cons xs k 0 h)

  pub no-rows-left : length xs ≤ k → rows_of (suc k) (drop k xs) ≡ []
  unfolding rows_of
  no-rows-left h = rw (drop_of_length-le xs h)

-- the row of a bin at its place, in front of those behind it: what a loop's turn puts, and how long it is
module _ (xs : List ℕ) (k v : ℕ) (h : k < length xs) (e : v ≡ get_or xs k 0) where
  pub rows-turn : rows_of (suc k) (drop k xs) ≡ row_of (k + 1) v ++ rows_of (suc (k + 1)) (drop (k + 1) xs)
  rows-turn = rw (rows-from xs k h, e, add-one k)

  pub size-turn : length (rows_of (suc k) (drop k xs)) ≡ length (row_of (k + 1) v) + length (rows_of (suc (k + 1)) (drop (k + 1) xs))
  size-turn = ap length rows-turn ∙ length-append (row_of (k + 1) v) (rows_of (suc (k + 1)) (drop (k + 1) xs))

-- ---- rows of counts of suc k digits and of bins
ten-digits : (n : ℕ) → n < 2 ^ 32 → length (decimal_of n) ≤ 10
ten-digits n h = digits-few 9 n (omega arith)

pub rows-within : (k count : ℕ) (xs : List ℕ) → count + length xs ≤ 10 ^ suc k → Below (2 ^ 32) xs → length (rows_of count xs) ≤ (k + 13) * length xs
unfolding rows_of
rows-within k count [] m b = omega arith
rows-within k count (x ∷ xs) m b =
    let r = rows-within k (suc count) xs (omega arith) b.1 in
    let a = length-append (row_of count x) (rows_of (suc count) xs) in
    let l = row-length count x in
    let c = digits-few k count (omega arith) in
    let d = ten-digits x b.0 in
    omega arith
