-- `fitter::start_writers::StartPlan::write_shapes` meets its contract: each turn writes the next of the lists. Assumes nothing.
use Prim.Native.Nat.{ℕ, ◌+◌, ◌-◌, ◌*◌, ◌/◌, ◌<◌}
use mathlib.Core.Path.{◌≡◌, ap, sym, ◌∙◌}
use mathlib.Core.List.{List, [], ◌∷◌, ◌++◌}
use native.Mathlib.Omega.{arith}
use lib.ListN.{length, drop, get_or, length-append, length-drop}
use lib.Ieee.{Float, nan}
use Rattle.std.specs.Slice.Iter.{chunks_exact_rest, chunks_exact_size}
use Rattle.fitter.specs.Starts.{shelf_start, planned_shelf}
use Rattle.fitter.specs.declared.start_writers.ErrorStart.{ErrorStart}
use Rattle.fitter.specs.declared.start_writers.StartPlan.{StartPlan}
use Rattle.fitter.proofs.Pieces.{piece_at, behind_piece, piece_inside}
use Rattle.fitter.proofs.Writing.{begins, asks, stays-in, goes_on, ends}
use Rattle.fitter.proofs.start_writers.StartPlan.write_shapes.Goals as goal

-- there is a next list, and the call writes it
given : (p : StartPlan) (seed : Float) (start : ErrorStart) (i : ℕ) (pair rest : List Float)
    → drop (2 * i) p.shapes.now ≡ pair ++ rest → length pair ≡ 2
    → (i < length p.shapes.now / 2)
    × (planned_shelf p seed start (record { retained = get_or pair 0 nan; concentration = get_or pair 1 nan })
    ≡ shelf_start p.error seed start p.share p.shapes.now i)
unfolding shelf_start
given p seed start i pair rest e l =
    let z : 2 * i + 0 ≡ 2 * i = omega arith in
    let first : get_or pair 0 nan ≡ get_or p.shapes.now (2 * i) nan =
    piece_at 2 (2 * i) p.shapes.now pair rest e l 0 nan (omega arith)
    ∙ ap (λ (k : ℕ). get_or p.shapes.now k nan) z in
    let second = piece_at 2 (2 * i) p.shapes.now pair rest e l 1 nan (omega arith) in
    let within = piece_inside 2 (2 * i) p.shapes.now pair rest e l (omega arith) in
    (omega arith, rw (first, second))

pub loop-pair-init : goal.loop-pair-init
loop-pair-init c =
    let same = c.into_iter-pair-iterator.ensures.into_iter_gives in
    let made = c.chunks_exact-pair-items.ensures in
    record {
      written = begins _ _ _;
      left = sym (ap chunks_exact_rest same ∙ made.rest);
      size = ap chunks_exact_size same ∙ made.size;
    }

pub write_shelf_start-at-requires : goal.write_shelf_start-at-requires
write_shelf_start-at-requires c =
    let a = c.args in
    let inv = c.loop-pair.invariant in
    let i : ℕ = length c.loop-pair.yielded in
    let steps = c.in-Some.ensures.steps in
    let g = given a.self.now a.seed a.start i _ _ (inv.left ∙ steps.1.0) (steps.1.1 ∙ inv.size) in
    asks _ _ _ _ _ _ inv.written g.0 c.requires _ g.1

pub overflow_add-at : goal.overflow_add-at
overflow_add-at c =
    let a = c.args in
    let inv = c.loop-pair.invariant in
    let i : ℕ = length c.loop-pair.yielded in
    let steps = c.in-Some.ensures.steps in
    let g = given a.self.now a.seed a.start i _ _ (inv.left ∙ steps.1.0) (steps.1.1 ∙ inv.size) in
    let w = c.write_shelf_start-at in
    omega (arith, stays-in _ _ _ _ _ _ inv.written g.0 c.requires _ g.1 _ w.ensures.0)

pub loop-pair-preserved : goal.loop-pair-preserved
loop-pair-preserved c =
    let a = c.args in
    let inv = c.loop-pair.invariant in
    let i : ℕ = length c.loop-pair.yielded in
    let steps = c.in-Some.ensures.steps in
    let g = given a.self.now a.seed a.start i _ _ (inv.left ∙ steps.1.0) (steps.1.1 ∙ inv.size) in
    let w = c.write_shelf_start-at in
    let next : 2 * (i + 1) ≡ 2 * i + 2 = omega arith in
    rw (length-append c.loop-pair.yielded (c.in-Some.pair ∷ []))
    (record {
      written = goes_on _ _ _ _ _ _ inv.written g.0 c.requires _ g.1 w.new.rest w.result w.auto.rest w.ensures;
      left = ap (λ (n : ℕ). drop n a.self.now.shapes.now) next ∙ behind_piece 2 (2 * i) _ _ _ (inv.left ∙ steps.1.0) (steps.1.1 ∙ inv.size);
      size = steps.0 ∙ inv.size;
    })

pub returns : goal.returns
returns c =
    let inv = c.loop-pair.invariant in
    let shapes = c.args.self.now.shapes.now in
    let i : ℕ = length c.loop-pair.yielded in
    let steps = c.in-None.ensures.steps in
    let few : length (chunks_exact_rest c.loop-pair.pair-iterator) < chunks_exact_size c.loop-pair.pair-iterator = steps.1.0 in
    let size : chunks_exact_size c.loop-pair.pair-iterator ≡ 2 = inv.size in
    let left : length shapes - 2 * i ≡ length (chunks_exact_rest c.loop-pair.pair-iterator) =
    sym (length-drop (2 * i) shapes) ∙ ap length inv.left in
    ends _ _ _ _ _ _ inv.written (omega arith)
