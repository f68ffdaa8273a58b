-- `models::height_cutoffs::last_bad` meets its contract. The survival that the loop carries is that of its count.
-- Assumes nothing.
use mathlib.Core.Path.{◌≡◌, refl, ap, ◌∙◌}
use Prim.Native.Nat.{◌+◌, ◌≤◌}
use native.Mathlib.Omega.{arith}
use lib.Ieee.{Float}
use Rattle.meaning.proofs.Loops.{Folded, begins, goes_on, ends}
use Rattle.routines.specs.Ops.{of_count}
use Rattle.models.specs.Errors.{survival_of}
use Rattle.models.proofs.Survivals.{first-survival, next-survival, error-from-is}
use Rattle.models.specs.HeightCutoffs.{later_bad, last_bad_of}
use Rattle.models.proofs.height_cutoffs.last_bad.Invariants.{step}
use Rattle.models.proofs.height_cutoffs.last_bad.Goals.{After-later_bad-last}
use Rattle.models.proofs.height_cutoffs.last_bad.Goals as goal

pub loop-count-init : goal.loop-count-init
loop-count-init c = (first-survival _ _ c.log_survival_from_two-here.ensures, begins _ _ _ _ _ (omega arith) refl)

-- one more count
went : (c : After-later_bad-last)
    → (c.survival_with-next.result ≡ survival_of c.args.t.error_params (of_count (c.loop-count.count + 1)))
    × Folded (step c.args.t c.args.reference) 0 1 (c.args.top + 1) c.later_bad-last.result (c.loop-count.count + 1)
went c =
    let turn = c.loop-count in
    let a = c.args in
    let few : turn.count ≤ 65535 = omega (arith, c.ranges) in
    let survives = next-survival turn.count few _ _ _ c.survival_with-next.ensures c.ln.ensures in (
      survives,
      goes_on _ _ _ _ turn.invariant.1 _ (omega arith)
          (c.later_bad-last.ensures
          ∙ ap (λ (x : Float). later_bad a.reference x turn.count turn.last)
          (c.error_height_from.ensures ∙ error-from-is turn.count few _ _ a.t turn.invariant.0 survives)),
    )

pub loop-count-preserved : goal.loop-count-preserved
loop-count-preserved c = went (goal.at.loop-count-preserved c).After-later_bad-last

pub returns : goal.returns
unfolding last_bad_of
returns c = ends _ _ _ _ c.loop-count.invariant.1 (omega arith)

pub returns-2 : goal.returns-2
unfolding last_bad_of
returns-2 c = ends _ _ _ _ (went (goal.at.returns-2 c).After-later_bad-last).1 (omega arith)
