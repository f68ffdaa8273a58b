-- `search::rows::Simplex::put` meets its contract. Assumes nothing.
use native.Mathlib.Omega.{arith}
use Rattle.search.specs.Simplex.{vertices_in}
use Rattle.search.proofs.RowParts.{row_written}
use Rattle.search.proofs.rows.Simplex.put.Goals as goal

pub returns-clause-vertices_after : goal.returns-clause-vertices_after
unfolding vertices_in
returns-clause-vertices_after c =
    let s = c.args.self.now in
    rw c.copy_from_slice.ensures.after (row_written s.w s.w s.rows.now c.args.i (omega arith) c.args.cost c.args.point.now c.requires.0 c.requires.1)
