-- `search::spread::mean_cost` meets its contract. Assumes nothing.
use mathlib.Core.Path.{sym, ap, ◌∙◌}
use native.Mathlib.Omega.{arith}
use lib.Ieee.{Float}
use Rattle.routines.specs.Ops.{◌⊕◌, ◌⊘◌, of_count}
use Rattle.meaning.proofs.Loops.{begins, goes_on, ends}
use Rattle.search.specs.Simplex.{vertices_in}
use Rattle.search.proofs.Costs.{mean-is}
use Rattle.search.proofs.SameSimplex.{vertices-length}
use Rattle.search.proofs.spread.mean_cost.Goals as goal

pub loop-i-init : goal.loop-i-init
loop-i-init c = begins _ _ _ _ _ (omega arith) c.cost-sum.ensures

pub loop-i-preserved : goal.loop-i-preserved
loop-i-preserved c =
    goes_on _ _ _ _ c.loop-i.invariant _ (omega arith) (ap (λ (x : Float). c.loop-i.sum ⊕ x) c.cost-sum-in-loop-i.ensures)

pub returns : goal.returns
returns c =
    let s = c.args.simplex.now in
    ap (λ (x : Float). x ⊘ of_count s.w) (ends _ _ _ _ c.loop-i.invariant (omega arith))
    ∙ sym (mean-is (vertices_in s) s.w (vertices-length s))
