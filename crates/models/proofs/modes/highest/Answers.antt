-- `models::modes::highest` meets its contract. The survival that the loop carries is that of its count. Assumes
-- nothing.
use mathlib.Core.Path.{◌≡◌, refl, ap, ◌∙◌}
use mathlib.Core.Bool.{true, false}
use Prim.Native.Nat.{◌+◌, ◌≤◌}
use native.Mathlib.Omega.{arith}
use lib.Ieee.{Float, inf, div, neg, of_bits}
use Rattle.meaning.proofs.Loops.{Folded, begins, goes_on, ends}
use Rattle.routines.specs.Ops.{of_count}
use Rattle.models.specs.Errors.{ln_tail_of, survival_of}
use Rattle.models.specs.Modes.{stands, higher_with, higher_of, highest_of}
use Rattle.models.proofs.Survivals.{first-survival, next-survival, between_is}
use Rattle.models.proofs.modes.highest.Goals.{After-step-best}
use Rattle.models.proofs.modes.highest.Goals as goal

pub loop-count-init : goal.loop-count-init
unfolding div neg of_bits
loop-count-init c = (
  c.ln_tail-ln_tail.ensures,
  first-survival _ _ c.log_survival_from_two-survival.ensures,
  begins _ _ _ _ _ (omega arith) refl,
)

-- one more count
went : (c : After-step-best) → (c.ln_tail-ln_tail.result ≡ ln_tail_of c.args.p)
    × (c.survival_with-next.result ≡ survival_of c.args.p (of_count (c.loop-count.count + 1)))
    × Folded (higher_of c.args.p) (stands 1 (inf true) false) 1 (c.args.top + 1) c.step-best.result
    (c.loop-count.count + 1)
unfolding higher_of
went c =
    let turn = c.loop-count in
    let inv = turn.invariant in
    let few : turn.count ≤ 65535 = omega (arith, c.ranges) in
    let next = next-survival turn.count few _ _ _ c.survival_with-next.ensures c.ln.ensures in (
      inv.0,
      next,
      goes_on _ _ _ _ inv.2 _ (omega arith)
          (c.step-best.ensures
          ∙ ap (λ (x : Float). higher_with x turn.count turn.best)
          (between_is turn.count few _ _ _ _ inv.0 inv.1 next)),
    )

pub loop-count-preserved : goal.loop-count-preserved
loop-count-preserved c = went (goal.at.loop-count-preserved c).After-step-best

pub returns : goal.returns
unfolding highest_of
returns c = ends _ _ _ _ c.loop-count.invariant.2 (omega arith)

pub returns-2 : goal.returns-2
unfolding highest_of
returns-2 c = ends _ _ _ _ (went (goal.at.returns-2 c).After-step-best).2 (omega arith)
