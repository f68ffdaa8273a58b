-- The crossover and the error floor, step by step: the laws that their loops cite, and that the terms of a fit give
-- the fit's. Assumes nothing.
use Prim.Native.Nat.{ℕ, suc, ◌+◌, ◌-◌, ◌≤◌, ◌<◌, max}
use mathlib.Core.Path.{◌≡◌, refl, sym, ap, ◌∙◌, fun_ext}
use mathlib.Core.Bool.{Bool, true, false, cond}
use native.Mathlib.Numerals.{add-one}
use native.Mathlib.Omega.{arith}
use lib.Ieee.{Float, lt}
use Rattle.routines.specs.Ops.{of_count}
use Rattle.models.specs.Fits.{primary_mode_of}
use Rattle.models.specs.HeightTerms.{height_terms_of, error_height_of, single_height_of, heights_of}
use Rattle.models.specs.declared.fit.SpectrumFit.{SpectrumFit}
use Rattle.models.specs.declared.height_terms.HeightTerms.{HeightTerms}
use Rattle.models.specs.declared.height_terms.Heights.{Heights}
use Rattle.models.proofs.HeightTerms.{terms-error, terms-single, terms-heights}
use Rattle.models.specs.HeightCutoffs.{heights_in, outgrows, crossing_from, crossing_of, errors_in, reference_of}
use Rattle.models.specs.HeightCutoffs.{last_bad_of}
use Rattle.std.specs.Prelude.{None, Some}

-- ---- the crossing
one_left : (n c : ℕ) → c < n → n - c ≡ suc (n - (c + 1))
one_left n c h = omega arith

none_left : (n c : ℕ) → n ≤ c → n - c ≡ 0
none_left n c h = omega arith

module _ (heights : ℕ → Heights) (n : ℕ) where
  pub crossing-starts : crossing_of heights n ≡ crossing_from heights (n - 1) 1
  unfolding crossing_of
  crossing-starts = refl

  module _ (c : ℕ) where
    pub crossing-ends : n ≤ c → crossing_from heights (n - c) c ≡ None
    unfolding crossing_from
    crossing-ends h = ap (λ (k : ℕ). crossing_from heights k c) (none_left n c h)

    stepped : c < n → (b : Bool) → outgrows heights c ≡ b
        → crossing_from heights (n - c) c ≡ cond b (Some (max c 2)) (crossing_from heights (n - (c + 1)) (c + 1))
    unfolding crossing_from
    stepped h b t =
        ap (λ (k : ℕ). crossing_from heights k c) (one_left n c h)
        ∙ ap (λ (a : Bool). cond a (Some (max c 2)) (crossing_from heights (n - (c + 1)) (suc c))) t
        ∙ ap (λ (k : ℕ). cond b (Some (max c 2)) (crossing_from heights (n - (c + 1)) k)) (sym (add-one c))

    pub crossing-hits : c < n → outgrows heights c ≡ true → crossing_from heights (n - c) c ≡ Some (max c 2)
    crossing-hits h t = stepped h true t

    pub crossing-goes : c < n → outgrows heights c ≡ false
        → crossing_from heights (n - c) c ≡ crossing_from heights (n - (c + 1)) (c + 1)
    crossing-goes h t = stepped h false t

pub outgrows-is : (t : HeightTerms) (n : ℕ) (error single : Float) (b : Bool) → error ≡ error_height_of t (of_count n)
    → single ≡ single_height_of t (of_count n) → lt error single ≡ b → outgrows (λ (k : ℕ). heights_of t (of_count k)) n ≡ b
unfolding heights_of
outgrows-is t n error single b e f h = rw (← e, ← f) h

-- ---- from the terms of a fit
module _ (fit : SpectrumFit) (t : HeightTerms) (e : t ≡ height_terms_of fit) where
  pub crossing-of-terms : (n : ℕ)
      → crossing_of (λ (k : ℕ). heights_of t (of_count k)) n ≡ crossing_of (heights_in fit) n
  crossing-of-terms n =
      ap (λ (f : ℕ → Heights). crossing_of f n) (fun_ext (λ (k : ℕ). rw (e) (terms-heights fit (of_count k))))

  pub last-bad-of-terms : (reference : Float) (top : ℕ)
      → last_bad_of (λ (k : ℕ). error_height_of t (of_count k)) reference top
      ≡ last_bad_of (errors_in fit) reference top
  last-bad-of-terms reference top =
      ap (λ (f : ℕ → Float). last_bad_of f reference top) (fun_ext (λ (k : ℕ). rw (e) (terms-error fit (of_count k))))

  pub floor-of-terms : (mode top last : ℕ) (x reference : Float) → mode ≡ primary_mode_of fit → x ≡ of_count mode
      → reference ≡ single_height_of t x
      → last ≡ last_bad_of (λ (k : ℕ). error_height_of t (of_count k)) reference top
      → last ≡ last_bad_of (errors_in fit) (reference_of fit) top
  unfolding reference_of
  floor-of-terms mode top last x reference m y r l =
      l ∙ last-bad-of-terms reference top ∙ ap (λ (h : Float). last_bad_of (errors_in fit) h top) reference-is
    where
      reference-is : reference ≡ reference_of fit
      reference-is = r ∙ rw (e, y, m) (terms-single fit (of_count (primary_mode_of fit)))
