-- `fitter::start_writers::StartPlan::write_table` meets its contract: each turn writes the next of the lists. Assumes nothing.
use Prim.Native.Nat.{ℕ, ◌+◌, ◌-◌, ◌*◌, ◌/◌, ◌<◌}
use mathlib.Core.Path.{◌≡◌, ap, sym, ◌∙◌}
use mathlib.Core.List.{List, [], ◌∷◌, ◌++◌}
use native.Mathlib.Omega.{arith}
use lib.ListN.{length, drop, get_or, length-append, length-drop}
use lib.Ieee.{Float, nan}
use Rattle.std.specs.Slice.Iter.{chunks_exact_rest, chunks_exact_size}
use Rattle.fitter.specs.Starts.{table_starts, planned_row}
use Rattle.fitter.specs.declared.start_writers.StartPlan.{StartPlan}
use Rattle.fitter.proofs.Pieces.{piece_at, behind_piece, piece_inside}
use Rattle.fitter.proofs.Writing.{begins, asks, stays-in, goes_on, ends}
use Rattle.fitter.proofs.start_writers.StartPlan.write_table.Goals as goal

-- there is a next list, and the call writes it
given : (p : StartPlan) (seed : Float) (i : ℕ) (row rest : List Float) → drop (3 * i) p.table.now ≡ row ++ rest
    → length row ≡ 3
    → (i < length p.table.now / 3)
    × (planned_row p seed (record { tail = get_or row 0 nan; single = get_or row 1 nan; shape = get_or row 2 nan })
    ≡ table_starts p.error p.genome seed p.table.now p.share p.shapes.now i)
unfolding table_starts
given p seed i row rest e l =
    let z : 3 * i + 0 ≡ 3 * i = omega arith in
    let tail : get_or row 0 nan ≡ get_or p.table.now (3 * i) nan =
    piece_at 3 (3 * i) p.table.now row rest e l 0 nan (omega arith)
    ∙ ap (λ (k : ℕ). get_or p.table.now k nan) z in
    let single = piece_at 3 (3 * i) p.table.now row rest e l 1 nan (omega arith) in
    let shape = piece_at 3 (3 * i) p.table.now row rest e l 2 nan (omega arith) in
    let within = piece_inside 3 (3 * i) p.table.now row rest e l (omega arith) in
    (omega arith, rw (tail, single, shape))

pub loop-row-init : goal.loop-row-init
loop-row-init c =
    let same = c.into_iter-row-iterator.ensures.into_iter_gives in
    let made = c.chunks_exact-row-items.ensures in
    record {
      written = begins _ _ _;
      left = sym (ap chunks_exact_rest same ∙ made.rest);
      size = ap chunks_exact_size same ∙ made.size;
    }

pub write_row-at-requires : goal.write_row-at-requires
write_row-at-requires c =
    let a = c.args in
    let inv = c.loop-row.invariant in
    let i : ℕ = length c.loop-row.yielded in
    let steps = c.in-Some.ensures.steps in
    let g = given a.self.now a.seed i _ _ (inv.left ∙ steps.1.0) (steps.1.1 ∙ inv.size) in
    asks _ _ _ _ _ _ inv.written g.0 c.requires _ g.1

pub overflow_add-at : goal.overflow_add-at
overflow_add-at c =
    let a = c.args in
    let inv = c.loop-row.invariant in
    let i : ℕ = length c.loop-row.yielded in
    let steps = c.in-Some.ensures.steps in
    let g = given a.self.now a.seed i _ _ (inv.left ∙ steps.1.0) (steps.1.1 ∙ inv.size) in
    let w = c.write_row-at in
    omega (arith, stays-in _ _ _ _ _ _ inv.written g.0 c.requires _ g.1 _ w.ensures.0)

pub loop-row-preserved : goal.loop-row-preserved
loop-row-preserved c =
    let a = c.args in
    let inv = c.loop-row.invariant in
    let i : ℕ = length c.loop-row.yielded in
    let steps = c.in-Some.ensures.steps in
    let g = given a.self.now a.seed i _ _ (inv.left ∙ steps.1.0) (steps.1.1 ∙ inv.size) in
    let w = c.write_row-at in
    let next : 3 * (i + 1) ≡ 3 * i + 3 = omega arith in
    rw (length-append c.loop-row.yielded (c.in-Some.row ∷ []))
    (record {
      written = goes_on _ _ _ _ _ _ inv.written g.0 c.requires _ g.1 w.new.rest w.result w.auto.rest w.ensures;
      left = ap (λ (n : ℕ). drop n a.self.now.table.now) next ∙ behind_piece 3 (3 * i) _ _ _ (inv.left ∙ steps.1.0) (steps.1.1 ∙ inv.size);
      size = steps.0 ∙ inv.size;
    })

pub returns : goal.returns
returns c =
    let inv = c.loop-row.invariant in
    let table = c.args.self.now.table.now in
    let i : ℕ = length c.loop-row.yielded in
    let steps = c.in-None.ensures.steps in
    let few : length (chunks_exact_rest c.loop-row.row-iterator) < chunks_exact_size c.loop-row.row-iterator = steps.1.0 in
    let size : chunks_exact_size c.loop-row.row-iterator ≡ 3 = inv.size in
    let left : length table - 3 * i ≡ length (chunks_exact_rest c.loop-row.row-iterator) =
    sym (length-drop (3 * i) table) ∙ ap length inv.left in
    ends _ _ _ _ _ _ inv.written (omega arith)
