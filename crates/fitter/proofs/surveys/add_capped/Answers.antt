-- `fitter::surveys::add_capped` meets its contract. Assumes nothing.
use Prim.Native.Nat.{ℕ, ◌+◌}
use mathlib.Core.Bool.{Bool, true, false}
use mathlib.Core.Path.{◌≡◌, refl, ap, ◌∙◌}
use mir.Val.{bool_byte}
use Rattle.fitter.specs.Runs.{at_most, top32, one_if}
use Rattle.fitter.proofs.Totals.{stopped}
use Rattle.fitter.proofs.surveys.add_capped.Goals as goal

one-if-so : (hit : Bool) → bool_byte hit ≡ one_if hit
one-if-so true = refl
one-if-so false = refl

pub returns : goal.returns
returns c =
    c.saturating_add.ensures ∙ stopped top32 _
    ∙ ap (λ (n : ℕ). at_most top32 (c.args.total + n)) (c.from.ensures ∙ one-if-so c.args.hit)
