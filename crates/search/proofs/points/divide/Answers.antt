-- `search::points::divide` meets its contract. Assumes nothing.
use Prim.Native.Nat.{ℕ, ◌<◌}
use mathlib.Core.Path.{refl}
use native.Mathlib.Omega.{arith}
use lib.ListN.{length, length-map}
use lib.Ieee.{Float, nan}
use Rattle.routines.specs.Ops.{◌⊘◌}
use Rattle.search.proofs.Elements.{begins, goes_on, ends, map_at}
use Rattle.search.proofs.points.divide.Goals as goal

pub loop-x-init : goal.loop-x-init
loop-x-init c = begins _ _ _

pub loop-x-preserved : goal.loop-x-preserved
loop-x-preserved c = goes_on _ _ _ c.loop-x.invariant _ (omega arith) refl

pub returns : goal.returns
returns c =
    let a = c.args in
    ends _ _ _ c.loop-x.invariant _ (omega arith) (length-map a.point.now _) (λ (i : ℕ) (h : i < length a.point.now). map_at (λ (x : Float). x ⊘ a.by) nan a.point.now i h)
