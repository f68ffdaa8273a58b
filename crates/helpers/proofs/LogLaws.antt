-- What the layers above use of `lse3`. Assumes nothing.
use mathlib.Core.Path.{◌≡◌, refl, sym, ap, ◌∙◌}
use mathlib.Core.Bool.{Bool, true, false, cond, true≢false}
use lib.Dec.{T}
use lib.IntN.{ℤ, pos}
use lib.Ieee.{Float, nan, inf, fin, binary64, lt, fits}
use lib.Ieee.Fits.{add-fits, cond-fits}
use lib.Ieee.Scale.{finite}
use Rattle.routines.specs.Ln.{ln_of}
use Rattle.routines.specs.Ops.{◌⊕◌}
use Rattle.routines.specs.Pick.{max_of}
use Rattle.routines.proofs.ShapesLn.{ln-fits, ln-not-minus-zero}
use Rattle.routines.proofs.Zeros.{sum-minus-zero}
use Rattle.helpers.specs.LogSums.{lse3_of, weight_of}

-- `lse3` of `f64` values is one, and never -0
max-fits : (a b : Float) → T (fits binary64 a) → T (fits binary64 b) → T (fits binary64 (max_of a b))
unfolding max_of
max-fits nan b A B = B
max-fits (inf s) b A B = cond-fits binary64 (lt (inf s) b) b (inf s) B A
max-fits (fin s m e) b A B = cond-fits binary64 (lt (fin s m e) b) b (fin s m e) B A

-- what is not finite is not -0
finite-zero : (m : Float) (g : ℤ) → finite m ≡ false → m ≡ fin true 0 g → ⊥
finite-zero m g h i = true≢false (sym (ap finite i) ∙ h)

module _ (a b c : Float) (A : T (fits binary64 a)) (B : T (fits binary64 b)) (C : T (fits binary64 c)) where
  abbrev top : Float
  top = max_of (max_of a b) c

  abbrev weights : Float
  weights = weight_of a top ⊕ weight_of b top ⊕ weight_of c top

  top-fits : T (fits binary64 top)
  top-fits = max-fits (max_of a b) c (max-fits a b A B) C

  pub lse3-fits : T (fits binary64 (lse3_of a b c))
  unfolding lse3_of
  lse3-fits = cond-fits binary64 (finite top) (top ⊕ ln_of weights) top (add-fits binary64 top (ln_of weights)) top-fits

  pub lse3-not-minus-zero : (g : ℤ) → lse3_of a b c ≡ fin true 0 g → ⊥
  unfolding lse3_of
  lse3-not-minus-zero g = go (finite top) refl
    where
      go : (f : Bool) → finite top ≡ f → cond f (top ⊕ ln_of weights) top ≡ fin true 0 g → ⊥
      go true h i = ln-not-minus-zero weights (pos 0) (sum-minus-zero top (ln_of weights) g top-fits (ln-fits weights (add-fits binary64 _ _)) i).1
      go false h i = finite-zero top g h i
