-- `helpers::masses::recurrence` meets its contract. Assumes nothing.
use mathlib.Core.Path.{refl, ap}
use native.Mathlib.Omega.{arith}
use lib.Ieee.{Float, div, neg, of_bits}
use Rattle.routines.specs.Ops.{◌⊕◌}
use Rattle.helpers.proofs.Recurrences.{sum-begins, sum-goes-on}
use Rattle.helpers.proofs.masses.recurrence.Goals as goal

pub loop-count-init : goal.loop-count-init
unfolding div neg of_bits
loop-count-init g c = λ f h. sum-begins f c.args.first c.args.top _ _ refl refl

pub loop-count-preserved : goal.loop-count-preserved
loop-count-preserved g c = λ f h.
    sum-goes-on _ _ _ (c.loop-count.invariant f h) _ _ (omega arith) c.lse2-total.ensures
    (ap (λ (log : Float). c.loop-count.term ⊕ log) (h c.loop-count.count _ (omega arith) c.ratio-term.ensures))
