-- Lists of numbers below a bound, and of bins in turn. Assumes nothing.
use Prim.Native.Nat.{ℕ, suc, ◌/◌, ◌^◌, ◌≤◌, ◌<◌, zero-le}
use mathlib.Core.Path.{◌≡◌, sym, ap, ◌∙◌}
use mathlib.Core.List.{List, [], ◌∷◌, ◌++◌, append-nil}
use native.Mathlib.Omega.{arith}
use lib.ListN.{length, get_or}
use lib.Seq.{append_snoc}
use Rattle.histogram.specs.Number.{number_bytes, numbers_bytes}
use Rattle.histogram.specs.File.{form, bins, range_of, next_of}
use Rattle.histogram.specs.Claims.{Below, Histogram, Allowed, behind}
use Rattle.histogram.proofs.Groups.{bytes-last, bytes-more, by-groups}

pub below_each : (m : ℕ) (xs : List ℕ) → ((k : ℕ) → k < length xs → get_or xs k 0 < m) → Below m xs
below_each m [] f = tt
below_each m (x ∷ xs) f = (f 0 (omega arith), below_each m xs (λ (k : ℕ) (h : k < length xs). f (suc k) (omega arith)))

pub below_left : (m : ℕ) (xs ys : List ℕ) → Below m (xs ++ ys) → Below m xs
below_left m [] ys b = tt
below_left m (x ∷ xs) ys b = (b.0, below_left m xs ys b.1)

pub below_right : (m : ℕ) (xs ys : List ℕ) → Below m (xs ++ ys) → Below m ys
below_right m [] ys b = b
below_right m (x ∷ xs) ys b = below_right m xs ys b.1

pub below-append : (m : ℕ) (xs ys : List ℕ) → Below m xs → Below m ys → Below m (xs ++ ys)
below-append m [] ys a b = b
below-append m (x ∷ xs) ys a b = (a.0, below-append m xs ys a.1 b)

-- ---- what is written is bytes
pub number-below : (n : ℕ) → Below 256 (number_bytes n)
number-below = by-groups (λ (n : ℕ). Below 256 (number_bytes n)) (λ (n : ℕ) (h : n < 128). rw (bytes-last n h) (omega arith, tt)) (λ (n : ℕ) (h : 128 ≤ n) (b : Below 256 (number_bytes (n / 128))). rw (bytes-more n h) (omega arith, b))

pub bytes_below : (ns : List ℕ) → Below 256 (numbers_bytes ns)
unfolding numbers_bytes
bytes_below [] = tt
bytes_below (n ∷ ns) = below-append 256 (number_bytes n) (numbers_bytes ns) (number-below n) (bytes_below ns)

-- ---- the bins of a file may come, and then nothing more
pub bins-allowed : (done ys : List ℕ) → Below (2 ^ 32) ys → Allowed (bins (length ys) done) ys
unfolding range_of next_of
bins-allowed done [] b = tt
bins-allowed done (y ∷ ys) b = ((zero-le, let h = b.0 in omega arith), bins-allowed (done ++ (y ∷ [])) ys b.1)

pub bins-behind : (done ys : List ℕ) → behind (bins (length ys) done) ys ≡ bins 0 (done ++ ys)
unfolding next_of
bins-behind done [] = ap (bins 0) (sym (append-nil done))
bins-behind done (y ∷ ys) = bins-behind (done ++ (y ∷ [])) ys ∙ ap (bins 0) (append_snoc done y ys)

pub file-allowed : (xs : List ℕ) → Histogram xs → Allowed form (1 ∷ length xs ∷ xs)
unfolding range_of next_of
file-allowed xs h = ((omega arith, omega arith), ((h.two, h.most), bins-allowed [] xs h.fit))

pub file-behind : (xs : List ℕ) → behind form (1 ∷ length xs ∷ xs) ≡ bins 0 xs
unfolding next_of
file-behind xs = bins-behind [] xs
