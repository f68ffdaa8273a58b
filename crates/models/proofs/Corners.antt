-- The corners of layer 3 that document 01 keeps: a height at count 0, and a mode of 2^64 or more. Assumes nothing.
use mathlib.Core.Path.{◌≡◌, refl, sym, ap, ◌∙◌}
use mathlib.Core.Bool.{Bool, true, false, ◌||◌, cond}
use lib.Ieee.{Float, nan, inf, fin, add, sub, neg, mul, lt, le, eq, ne, of_bits, of_int}
use lib.Ieee.Scale.{finite}
use Rattle.meaning.specs.Reply.{give}
use Rattle.meaning.proofs.Replies.{same_answer}
use Rattle.routines.specs.Constants.{one}
use Rattle.routines.specs.Ln.{ln_of}
use Rattle.routines.specs.Ops.{◌⊕◌, ◌⊖◌, ◌⊗◌, of_count}
use Rattle.routines.proofs.AnnexF.{exp-nan, ln-below-zero}
use Rattle.helpers.specs.Lobes.{two64}
use Rattle.helpers.specs.LogSums.{ln_sub_exp_of}
use Rattle.helpers.proofs.Corners.{mode-full}
use Rattle.models.specs.Errors.{survival_of, log_probability_of}
use Rattle.models.specs.Fits.{primary_mode_of, repeat_mode_of}
use Rattle.models.specs.Heights.{heights_at, component_heights_of}
use Rattle.models.specs.declared.errors.ErrorParams.{ErrorParams}
use Rattle.models.specs.declared.fit.SpectrumFit.{SpectrumFit}
use Rattle.models.specs.declared.height_terms.Heights.{Heights}

-- ---- NaN goes through
times-nan : (x : Float) → x ⊗ nan ≡ nan
unfolding mul
times-nan nan = refl
times-nan (inf s) = refl
times-nan (fin s m e) = refl

plus-nan : (x : Float) → x ⊕ nan ≡ nan
unfolding add
plus-nan nan = refl
plus-nan (inf s) = refl
plus-nan (fin s m e) = refl

-- ---- the error part of a height at count 0: the logarithm of -1 is in it
zero-offset : ln_of (of_count 0 ⊖ one) ≡ nan
zero-offset = ln-below-zero (of_count 0 ⊖ one) (unfold of_int of_bits sub neg add lt in refl)

zero-survival : (p : ErrorParams) → survival_of p (of_count 0) ≡ nan
unfolding survival_of mul
zero-survival p = rw (zero-offset, times-nan (neg p.tail_exponent))

sub-from-nan : (low : Float) → ln_sub_exp_of nan low ≡ nan
unfolding ln_sub_exp_of eq lt add
sub-from-nan low = either (ne low low)
  where
    either : (b : Bool) → cond (false || b) nan nan ≡ nan
    either true = refl
    either false = refl

zero-probability : (p : ErrorParams) → log_probability_of p (of_count 0) ≡ nan
unfolding log_probability_of eq of_int of_bits
zero-probability p =
    rw (zero-survival p, sub-from-nan (survival_of p (of_count 0 ⊕ one)))
    (plus-nan (ln_of (one ⊖ p.singleton_probability)))

height-at-zero : (fit : SpectrumFit) → (heights_at fit (of_count 0)).error ≡ nan
unfolding heights_at sub add
height-at-zero fit =
    rw (zero-probability fit.error_params, exp-nan) (times-nan (fit.observed_total ⊗ fit.w_error))

pub component-height-at-zero : (fit : SpectrumFit) (h : Heights) → component_heights_of fit 0 ≡ give h → h.error ≡ nan
unfolding component_heights_of
component-height-at-zero fit h gave = ap (λ (x : Heights). x.error) (sym (same_answer gave)) ∙ height-at-zero fit

-- ---- a finite mode of 2^64 or more is 2^64-1
pub primary-mode-full : (fit : SpectrumFit) → finite (fit.mean ⊖ (fit.dispersion ⊖ one)) ≡ true
    → le two64 (fit.mean ⊖ (fit.dispersion ⊖ one)) ≡ true → primary_mode_of fit ≡ 18446744073709551615
primary-mode-full fit f h = mode-full fit.mean fit.dispersion f h

pub repeat-mode-full : (fit : SpectrumFit) → finite (fit.repeat_ratio ⊗ fit.mean ⊖ (fit.dispersion ⊖ one)) ≡ true
    → le two64 (fit.repeat_ratio ⊗ fit.mean ⊖ (fit.dispersion ⊖ one)) ≡ true
    → repeat_mode_of fit ≡ 18446744073709551615
repeat-mode-full fit f h = mode-full (fit.repeat_ratio ⊗ fit.mean) fit.dispersion f h
