-- The bytes of several numbers, taken apart at a place, and how many there are. Assumes nothing.
use Prim.Native.Nat.{ℕ, suc, ◌+◌, ◌*◌, ◌^◌, ◌≤◌, ◌<◌}
use mathlib.Core.Path.{◌≡◌, refl, ap, ◌∙◌}
use mathlib.Core.List.{List, [], ◌∷◌, ◌++◌}
use native.Mathlib.Numerals.{add-one}
use native.Mathlib.Omega.{arith}
use lib.ListN.{length, get_or, drop, length-append, length-drop, length-set, length-take, drop_of_length-le}
use lib.Seq.{drop-cons}
use Rattle.histogram.specs.Number.{groups_of, number_bytes, numbers_bytes}
use Rattle.histogram.specs.File.{most_bins, write_of}
use Rattle.histogram.specs.Claims.{Below}
use Rattle.histogram.proofs.Groups.{bytes-few}

module _ (xs : List ℕ) (k : ℕ) where
  pub bytes-from : k < length xs → numbers_bytes (drop k xs) ≡ number_bytes (get_or xs k 0) ++ numbers_bytes (drop (suc k) xs)
  unfolding numbers_bytes
  bytes-from h = rw (drop-cons xs k 0 h)

  pub no-bytes-left : length xs ≤ k → numbers_bytes (drop k xs) ≡ []
  unfolding numbers_bytes
  no-bytes-left h = rw (drop_of_length-le xs h)

-- the bytes of a number at its place, in front of those behind it: what a loop's turn puts, and how many they are
module _ (xs : List ℕ) (k v : ℕ) (h : k < length xs) (e : v ≡ get_or xs k 0) where
  pub bytes-turn : numbers_bytes (drop k xs) ≡ number_bytes v ++ numbers_bytes (drop (k + 1) xs)
  bytes-turn = rw (bytes-from xs k h, e, add-one k)

  pub size-turn : length (numbers_bytes (drop k xs)) ≡ length (number_bytes v) + length (numbers_bytes (drop (k + 1) xs))
  size-turn = ap length bytes-turn ∙ length-append (number_bytes v) (numbers_bytes (drop (k + 1) xs))

-- the form takes one byte
pub file-bytes : (xs : List ℕ) → write_of xs ≡ 1 ∷ (number_bytes (length xs) ++ numbers_bytes xs)
unfolding write_of numbers_bytes number_bytes groups_of
file-bytes xs = refl

pub file-length : (xs : List ℕ) → length (write_of xs) ≡ 1 + length (number_bytes (length xs)) + length (numbers_bytes xs)
file-length xs = let e = ap length (file-bytes xs) ∙ ap suc (length-append (number_bytes (length xs)) (numbers_bytes xs)) in omega arith

pub ruleset lengths = (file-length, length-set, length-append, length-take, length-drop)

-- ---- a bin takes five bytes at most, and the bin count two
five : (n : ℕ) → n < 2 ^ 32 → length (number_bytes n) ≤ 5
five n h = bytes-few 4 n (omega arith)

two : (n : ℕ) → n ≤ most_bins → length (number_bytes n) ≤ 2
unfolding most_bins
two n h = bytes-few 1 n (omega arith)

bins-length : (xs : List ℕ) → Below (2 ^ 32) xs → length (numbers_bytes xs) ≤ 5 * length xs
unfolding numbers_bytes
bins-length [] b = omega arith
bins-length (x ∷ xs) b =
    let f = five x b.0 in
    let r = bins-length xs b.1 in
    let l = length-append (number_bytes x) (numbers_bytes xs) in
    omega arith

pub file-within : (xs : List ℕ) → length xs ≤ most_bins → Below (2 ^ 32) xs → length (write_of xs) ≤ 3 + 5 * length xs
file-within xs m b =
    let n = two (length xs) m in
    let r = bins-length xs b in
    let l = file-length xs in
    omega arith
