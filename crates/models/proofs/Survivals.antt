-- One count after another: the log survival of the next count, and its logarithm, are what that count needs itself.
-- Assumes nothing.
use Prim.Native.Nat.{ℕ, ◌+◌, ◌^◌, ◌≤◌}
use mathlib.Core.Path.{◌≡◌, refl}
use native.Mathlib.Omega.{arith}
use lib.Ieee.{Float, of_bits, of_int}
use Rattle.routines.specs.Constants.{one}
use Rattle.routines.specs.Hoists.{lgamma_with}
use Rattle.routines.specs.Lgamma.{lgamma_of}
use Rattle.routines.specs.Ln.{ln_of}
use Rattle.routines.specs.Ops.{of_count}
use Rattle.routines.proofs.Counts.{count-more, count_less}
use Rattle.routines.proofs.Logarithms.{lgamma-with-is}
use Rattle.models.specs.Errors.{ln_tail_of, survival_of, log_probability_of}
use Rattle.models.specs.HeightTerms.{error_height_from, error_height_of, single_height_of, repeat_height_of}
use Rattle.models.specs.HeightTerms.{heights_from, heights_of}
use Rattle.models.specs.Hoists.{survival_with, log_probability_between}
use Rattle.models.specs.declared.errors.ErrorParams.{ErrorParams}
use Rattle.models.specs.declared.height_terms.HeightTerms.{HeightTerms}

count-one : of_count 1 ≡ one
unfolding of_int of_bits
count-one = refl

pub first-survival : (p : ErrorParams) (x : Float) → x ≡ survival_of p one → x ≡ survival_of p (of_count 1)
first-survival p x e = rw (count-one) e

pub first-log : (x : Float) → x ≡ ln_of one → x ≡ ln_of (of_count 1)
first-log x e = rw (count-one) e

exact : (n : ℕ) → n ≤ 65535 → n + 1 ≤ 2 ^ 53
exact n h = omega arith

wide : (n : ℕ) → n ≤ 65535 → n ≤ 2 ^ 53
wide n h = omega arith

pub with-log : (x log : Float) → log ≡ ln_of x → lgamma_with x log ≡ lgamma_of x
with-log x log e = rw (e) (lgamma-with-is x)

module _ (n : ℕ) (h : n ≤ 65535) where
  pub next-survival : (p : ErrorParams) (x log : Float) → x ≡ survival_with p log → log ≡ ln_of (of_count n)
      → x ≡ survival_of p (of_count (n + 1))
  unfolding survival_of survival_with
  next-survival p x log e l = rw (e, l, count_less n (exact n h))

module _ (n : ℕ) (h : n ≤ 65535) (here next : Float) where
  pub between_is : (p : ErrorParams) (tail : Float) → tail ≡ ln_tail_of p → here ≡ survival_of p (of_count n)
      → next ≡ survival_of p (of_count (n + 1))
      → log_probability_between p tail (of_count n) here next ≡ log_probability_of p (of_count n)
  unfolding log_probability_between log_probability_of
  between_is p tail t e f = rw (t, e, f, count-more n (wide n h))

  module _ (t : HeightTerms) (e : here ≡ survival_of t.error_params (of_count n))
      (f : next ≡ survival_of t.error_params (of_count (n + 1))) where
    pub error-from-is : error_height_from t (of_count n) here next ≡ error_height_of t (of_count n)
    unfolding error_height_of
    error-from-is = rw (e, f, count-more n (wide n h))

    pub heights-from-is : (gamma : Float) → gamma ≡ lgamma_of (of_count (n + 1))
        → heights_from t (of_count n) here next gamma ≡ heights_of t (of_count n)
    unfolding heights_of single_height_of repeat_height_of
    heights-from-is gamma g = rw (error-from-is, g, count-more n (wide n h))
