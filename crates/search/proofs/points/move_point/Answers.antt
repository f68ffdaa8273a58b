-- `search::points::move_point` meets its contract. Assumes nothing.
use Prim.Native.Nat.{ℕ, ◌<◌}
use native.Mathlib.Omega.{arith}
use lib.ListN.{length}
use lib.Ieee.{nan}
use Rattle.search.proofs.Elements.{begins, goes_on, ends}
use Rattle.search.proofs.Moved.{moved_length, moved_at}
use Rattle.search.proofs.points.move_point.Goals as goal

pub loop-j-init : goal.loop-j-init
loop-j-init c = begins _ _ _

pub loop-j-preserved : goal.loop-j-preserved
loop-j-preserved c = goes_on _ _ _ c.loop-j.invariant _ (omega arith) c.moved_by.ensures

pub returns : goal.returns
returns c =
    let a = c.args in
    let xs = a.point.now in
    let ys = a.other.now in
    let e = c.requires in
    ends _ _ _ c.loop-j.invariant _ (omega arith) (moved_length a.how xs ys e)
    (λ (i : ℕ) (h : i < length xs). moved_at a.how xs ys i nan e h)
