-- The steps of the cost: where it stops, and what its answer and the table are then. Assumes nothing.
use Prim.Native.Nat.{ℕ}
use mathlib.Core.Path.{◌≡◌, sym, ap, ◌∙◌}
use mathlib.Core.Bool.{true, false}
use mathlib.Core.List.{List}
use lib.Ieee.{Float, inf, neg, le}
use lib.Ieee.Scale.{finite}
use Rattle.meaning.specs.Over.{over}
use Rattle.routines.specs.Constants.{zero}
use Rattle.models.specs.Costs.{mode_held, started, likelihood_usable, table_with}
use Rattle.models.specs.Hoists.{steady_of, masses_at, likelihood_at}
use Rattle.models.specs.Masses.{masses_usable}
use Rattle.models.specs.Prepared.{evaluated_at, cost_ready}
use Rattle.models.specs.Usable.{params_usable}
use Rattle.models.specs.declared.params.Params.{Params}
use Rattle.models.specs.declared.steady.Steady.{Steady}
use Rattle.models.specs.declared.window_masses.WindowMasses.{WindowMasses}

pub not_finite : (t : Float) → finite t ≡ false → likelihood_usable t ≡ false
unfolding likelihood_usable
not_finite t f = rw f

pub above_zero : (t : Float) → finite t ≡ true → le t zero ≡ false → likelihood_usable t ≡ false
unfolding likelihood_usable
above_zero t f l = rw (f, l)

pub at-most-zero : (t : Float) → finite t ≡ true → le t zero ≡ true → likelihood_usable t ≡ true
unfolding likelihood_usable
at-most-zero t f l = rw (f, l)

module _ (bins : List ℕ) (scale : Float) (end : ℕ) (p : Params) (ready table : List Float) (s : Steady) (m : WindowMasses)
    (d : s ≡ steady_of p) (e : m ≡ masses_at p s ready table end) where
  masses-is : m ≡ masses_at p (steady_of p) ready table end
  masses-is = e ∙ ap (λ (k : Steady). masses_at p k ready table end) d

  pub masses-stop : masses_usable m ≡ false → inf false ≡ evaluated_at bins scale end p ready table
  unfolding evaluated_at
  masses-stop h = rw (sym (ap masses_usable masses-is) ∙ h)

  module _ (t : Float) (l : t ≡ likelihood_at bins scale end p m s ready table) (h : masses_usable m ≡ true) where
    total-is : t ≡ likelihood_at bins scale end p (masses_at p (steady_of p) ready table end) (steady_of p) ready table
    total-is =
        l ∙ ap (λ (k : WindowMasses). likelihood_at bins scale end p k s ready table) masses-is
        ∙ ap (λ (k : Steady). likelihood_at bins scale end p (masses_at p (steady_of p) ready table end) k ready table) d

    pub likelihood-stops : likelihood_usable t ≡ false → inf false ≡ evaluated_at bins scale end p ready table
    unfolding evaluated_at
    likelihood-stops u = rw (sym (ap masses_usable masses-is) ∙ h, sym (ap likelihood_usable total-is) ∙ u)

    pub evaluates : likelihood_usable t ≡ true → neg t ≡ evaluated_at bins scale end p ready table
    unfolding evaluated_at
    evaluates u = rw (sym (ap masses_usable masses-is) ∙ h, sym (ap likelihood_usable total-is) ∙ u) (ap neg total-is)

-- ---- before the table
module _ (p : Params) where
  pub params-stop : params_usable p ≡ false → started p ≡ false
  unfolding started
  params-stop h = rw h

  pub mode-stops : params_usable p ≡ true → mode_held p ≡ false → started p ≡ false
  unfolding started
  mode-stops h k = rw (h, k)

  pub starts : params_usable p ≡ true → mode_held p ≡ true → started p ≡ true
  unfolding started
  starts h k = rw (h, k)

  pub stopped-cost : (bins : List ℕ) (scale : Float) (end : ℕ) (ready entries : List Float) → started p ≡ false
      → inf false ≡ cost_ready bins scale end p ready entries
  stopped-cost bins scale end ready entries h = rw h

  pub stopped-table : (entries held : List Float) → started p ≡ false → held ≡ table_with p entries held
  stopped-table entries held h = rw h

  pub started-cost : (bins : List ℕ) (scale : Float) (end : ℕ) (y : Float) (ready t entries : List Float)
      → started p ≡ true
      → y ≡ evaluated_at bins scale end p ready t → t ≡ entries → y ≡ cost_ready bins scale end p ready entries
  started-cost bins scale end y ready t entries h e o = rw h (e ∙ ap (evaluated_at bins scale end p ready) o)

  pub started-table : (entries held t : List Float) → started p ≡ true → t ≡ over entries held
      → t ≡ table_with p entries held
  started-table entries held t h e = rw h e
