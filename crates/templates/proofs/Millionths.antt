-- The whole part of a number and its millionths, where a million is carried and where it is not. Assumes nothing.
use Prim.Native.Nat.{ℕ}
use mathlib.Core.Path.{◌≡◌, sym, ap, ◌∙◌}
use mathlib.Core.Bool.{Bool, true, false}
use lib.Ieee.{Float, le, to_unsigned}
use Rattle.routines.specs.Constants.{one}
use Rattle.routines.specs.Ops.{◌⊕◌, ◌⊖◌, ◌⊗◌}
use Rattle.routines.specs.Whole.{round_of, floor_of}
use Rattle.templates.specs.Floats.{MILLION, carries, whole_of, millionths_of}

module _ (t f r : Float) (low : f ≡ floor_of t) (rest : r ≡ round_of ((t ⊖ f) ⊗ MILLION)) where
  tells : (b : Bool) → le MILLION r ≡ b → carries t ≡ b
  unfolding carries
  tells b h = ap (le MILLION) (sym (rest ∙ ap (λ (x : Float). round_of ((t ⊖ x) ⊗ MILLION)) low)) ∙ h

  pub carried : le MILLION r ≡ true → (n : ℕ) → n ≡ to_unsigned 64 (f ⊕ one) → (n ≡ whole_of t) × (0 ≡ millionths_of t)
  unfolding whole_of millionths_of
  carried h n e =
      (e ∙ ap (λ (x : Float). to_unsigned 64 (x ⊕ one)) low ∙ rw (tells true h), rw (tells true h))

  pub kept : le MILLION r ≡ false → (n m : ℕ) → n ≡ to_unsigned 64 f → m ≡ to_unsigned 64 r
      → (n ≡ whole_of t) × (m ≡ millionths_of t)
  unfolding whole_of millionths_of
  kept h n m e d = (
    e ∙ ap (to_unsigned 64) low ∙ rw (tells false h),
    d ∙ ap (to_unsigned 64) (rest ∙ ap (λ (x : Float). round_of ((t ⊖ x) ⊗ MILLION)) low) ∙ rw (tells false h),
  )
