-- `models::height_rows::write_heights` meets its contract. Assumes nothing.
use mathlib.Core.Path.{◌≡◌}
use mathlib.Core.List.{List}
use Prim.Native.Nat.{ℕ, ◌+◌, ◌*◌, ◌≤◌}
use lib.Ieee.{Float}
use lib.ListN.{length}
use Rattle.meaning.specs.Over.{over}
use Rattle.routines.specs.Ln.{ln_of}
use Rattle.routines.specs.Ops.{of_count}
use Rattle.models.specs.Errors.{survival_of}
use Rattle.models.specs.Heights.{height_rows}
use Rattle.models.specs.HeightTerms.{heights_of}
use Rattle.models.specs.declared.errors.ErrorParams.{ErrorParams}
use Rattle.models.specs.declared.height_terms.HeightTerms.{HeightTerms}
use Rattle.models.specs.declared.height_terms.Heights.{Heights}
use Rattle.models.proofs.height_rows.write_heights.Given as goal

-- The first i rows are written, and what the next count needs is at hand.
abbrev pub heights-in : HeightTerms → ℕ → Heights
heights-in t k = heights_of t (of_count k)

pub record Written (t : HeightTerms) (last : ℕ) (held : List Float) (p : ErrorParams) (log here : Float) (out : List Float)
    (i : ℕ) : Type 0 where
  pub upto : i ≤ last
  pub params : p ≡ t.error_params
  pub lengths : length out ≡ length held
  pub room : 3 * last ≤ length held
  pub logged : log ≡ ln_of (of_count (i + 1))
  pub survives : here ≡ survival_of t.error_params (of_count (i + 1))
  pub rows : out ≡ over (height_rows (heights-in t) i) held

abbrev pub invariant-loop-i : goal.invariant-loop-i
invariant-loop-i l =
    Written l.t l.last l.initial.out l.p l.log l.here l.out l.i
