-- The numbers of a histogram file in turn, the form, the bin count and the bins: a whole number takes the reader on,
-- and one at fault stops it where it starts.
-- Assumes nothing.
use Prim.Native.Nat.{ℕ, suc, ◌+◌, ◌-◌, ◌^◌, ◌≤◌, ◌<◌}
use mathlib.Core.Path.{◌≡◌, refl, ap, ◌∙◌}
use mathlib.Core.List.{List, [], ◌∷◌, ◌++◌}
use native.Mathlib.Omega.{arith}
use Rattle.meaning.specs.Reply.{broken, give}
use Rattle.histogram.specs.declared.number.Found.{Found}
use Rattle.histogram.specs.Number.{between, number_at_of}
use Rattle.histogram.specs.File.{most_bins, form, count, bins, range_of, next_of, ends_of, read_from, read_of}
use Rattle.histogram.proofs.Steps.{goes, breaks}

-- ---- the form
module _ (file : List ℕ) where
  pub form-read : (f : Found) → number_at_of (between 1 1) file 0 ≡ give f → read_of file ≡ read_from count file f.next
  unfolding read_of read_from range_of next_of
  form-read f e = (goes form file 0 f e).on

  pub form-broken : (place : ℕ) → number_at_of (between 1 1) file 0 ≡ broken place → read_of file ≡ broken 0
  unfolding read_of read_from range_of ends_of
  form-broken place e = breaks form file 0 place refl e

-- ---- the bin count
module _ (file : List ℕ) (at : ℕ) where
  pub count_fits : (f : Found) → number_at_of (between 2 most_bins) file at ≡ give f → f.value ≤ most_bins
  unfolding range_of
  count_fits f e = (goes count file at f e).high

  pub count-read : (f : Found) → number_at_of (between 2 most_bins) file at ≡ give f → read_from count file at ≡ read_from (bins f.value []) file f.next
  unfolding range_of next_of
  count-read f e = (goes count file at f e).on

  pub count-broken : (place : ℕ) → number_at_of (between 2 most_bins) file at ≡ broken place → read_from count file at ≡ broken at
  unfolding range_of ends_of
  count-broken place e = breaks count file at place refl e

-- ---- the bins
one_more : (n k : ℕ) → k < n → n - k ≡ suc (n - (k + 1))
one_more n k h = omega arith

-- k of n bins are read
module _ (n k : ℕ) (less : k < n) (done file : List ℕ) (at : ℕ) where
  pub bin_fits : (f : Found) → number_at_of (between 0 (2 ^ 32 - 1)) file at ≡ give f → f.value ≤ 2 ^ 32 - 1
  unfolding range_of
  bin_fits f e = (goes (bins (suc (n - (k + 1))) done) file at f e).high

  pub bin-read : (f : Found) → number_at_of (between 0 (2 ^ 32 - 1)) file at ≡ give f → read_from (bins (n - k) done) file at ≡ read_from (bins (n - (k + 1)) (done ++ (f.value ∷ []))) file f.next
  unfolding range_of next_of
  bin-read f e = ap (λ (left : ℕ). read_from (bins left done) file at) (one_more n k less) ∙ (goes (bins (suc (n - (k + 1))) done) file at f e).on

  pub bin-broken : (place : ℕ) → number_at_of (between 0 (2 ^ 32 - 1)) file at ≡ broken place → read_from (bins (n - k) done) file at ≡ broken at
  unfolding range_of ends_of
  bin-broken place e = ap (λ (left : ℕ). read_from (bins left done) file at) (one_more n k less) ∙ breaks (bins (suc (n - (k + 1))) done) file at place refl e
