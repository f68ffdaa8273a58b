-- `search::rows::Simplex::swap_next` meets its contract. Assumes nothing.
use native.Mathlib.Omega.{arith}
use lib.ListN.{length-take, length-drop}
use Rattle.search.specs.Simplex.{vertices_in}
use Rattle.search.proofs.RowLaws.{next_fits}
use Rattle.search.proofs.RowParts.{rows-swapped}
use Rattle.search.proofs.rows.Simplex.swap_next.Goals as goal

pub swap_with_slice-requires : goal.swap_with_slice-requires
swap_with_slice-requires c =
    let w = c.args.self.now.w in
    let k = next_fits c.args.i w w c.requires in
    simp (length-take, length-drop) (omega arith)

pub returns-clause-vertices_after : goal.returns-clause-vertices_after
unfolding vertices_in
returns-clause-vertices_after c =
    let t = c.args.self.now in
    let s = c.split_at_mut-front.ensures in
    let k = c.swap_with_slice.ensures in
    rows-swapped t.w t.w t.rows.now c.args.i (omega arith) c.requires _ _ _ _ s.front s.back k.after k.other_after
