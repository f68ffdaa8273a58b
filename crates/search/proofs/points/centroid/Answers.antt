-- `search::points::centroid` meets its contract. Assumes nothing.
use mathlib.Core.Path.{ap, ◌∙◌}
use native.Mathlib.Omega.{arith}
use Rattle.meaning.proofs.Loops.{begins, goes_on}
use Rattle.search.specs.Points.{moved}
use Rattle.search.specs.Simplex.{vertices_in}
use Rattle.search.specs.declared.points.Move.TheVariants.{Sum}
use Rattle.search.proofs.Centroids.{sum-ends, centroid-is}
use Rattle.search.proofs.SameSimplex.{vertices-length}
use Rattle.search.proofs.points.centroid.Goals as goal

pub loop-i-init : goal.loop-i-init
loop-i-init c = begins _ _ _ _ _ (omega arith) (c.copy_from_slice.ensures.after ∙ c.point.ensures.value)

pub loop-i-preserved : goal.loop-i-preserved
loop-i-preserved c =
    goes_on _ _ _ _ c.loop-i.invariant _ (omega arith)
    (c.move_point.ensures ∙ ap (moved Sum c.loop-i.point) c.point-in-loop-i.ensures.value)

pub returns : goal.returns
returns c =
    let s = c.args.simplex.now in
    c.divide.ensures
    ∙ centroid-is (vertices_in s) s.w (vertices-length s) c.loop-i.point (sum-ends _ _ _ c.loop-i.invariant (omega arith))
