-- `search::reporting::find` meets its contract. Assumes nothing.
use Prim.Native.Nat.{ℕ, ◌+◌, ◌*◌, ◌≤◌, ◌<◌}
use mathlib.Core.Path.{◌≡◌}
use mathlib.Core.List.{List}
use native.Mathlib.Nat.{mul-le-mul}
use native.Mathlib.Omega.{arith}
use lib.Ieee.{Float}
use Rattle.search.specs.Reporting.{least_place}
use Rattle.search.specs.Vertices.{rows_in}
use Rattle.search.proofs.Reported.{least-in, found-is}
use Rattle.search.proofs.RowLaws.{row_fits}
use Rattle.search.proofs.reporting.find.Goals as goal

-- the row lies in the slice, which is short
inside : (w k : ℕ) (xs : List Float) → 0 < w → k ≡ least_place (rows_in w w xs) → k * w + w ≤ w * w
inside w k xs h e =
    let l : least_place (rows_in w w xs) < w = least-in w xs h in
    row_fits k w w (omega arith)

few : (w : ℕ) → w ≤ 12 → w * w ≤ 144
few w h = mul-le-mul h h

pub overflow_mul-at : goal.overflow_mul-at
overflow_mul-at c =
    omega (arith, inside c.args.w c.least_row.result c.args.rows.now c.requires.1 c.least_row.ensures, few c.args.w c.requires.2)

pub offset_bounds-rows-at : goal.offset_bounds-rows-at
offset_bounds-rows-at c =
    omega (arith, inside c.args.w c.least_row.result c.args.rows.now c.requires.1 c.least_row.ensures, few c.args.w c.requires.2)

pub bounds-rows-at : goal.bounds-rows-at
bounds-rows-at c = omega (arith, inside c.args.w c.least_row.result c.args.rows.now c.requires.1 c.least_row.ensures)

pub overflow_add-result : goal.overflow_add-result
overflow_add-result c =
    omega (arith, inside c.args.w c.least_row.result c.args.rows.now c.requires.1 c.least_row.ensures, few c.args.w c.requires.2)

pub overflow_add-result-2 : goal.overflow_add-result-2
overflow_add-result-2 c =
    omega (arith, inside c.args.w c.least_row.result c.args.rows.now c.requires.1 c.least_row.ensures, few c.args.w c.requires.2)

pub returns : goal.returns
returns c =
    let a = c.args in
    found-is a.w a.cap a.rows.now c.requires.0 c.requires.1 a.from a.iterations a.stopped
    c.least_row.result c.least_row.ensures _ _ c.has_converged.ensures c.is_capped.ensures
