-- `fitter::start_writers::StartPlan::write_starts` meets its contract: each turn writes the next of the lists, and the
-- last one is the hint's. Assumes nothing.
use Prim.Native.Nat.{ℕ, ◌≤◌, ◌<◌}
use mathlib.Core.List.{List, [], ◌∷◌, ◌++◌}
use mathlib.Core.Path.{◌≡◌, sym, ap}
use native.Mathlib.Omega.{arith}
use lib.Ieee.{Float, nan}
use lib.ListN.{length, get_or, get_or-append, length-append}
use lib.Seq.{get_or_at}
use Rattle.fitter.specs.Starts.{seed_starts, all_starts, planned_seed}
use Rattle.fitter.specs.declared.start_writers.StartPlan.{StartPlan}
use Rattle.fitter.proofs.Writing.{begins, asks, stays-in, goes_on, ends}
use Rattle.fitter.proofs.start_writers.StartPlan.write_starts.Goals as goal

module _ (p : StartPlan) (seeds : List Float) (hint : Float) where
  less : (i : ℕ) → i ≤ length seeds → i < length (seeds ++ (hint ∷ []))
  less i h = rw length-append (omega arith)

  -- what the call writes is the next of the lists
  seed-given : (i : ℕ) → i < length seeds → planned_seed p (get_or seeds i nan)
      ≡ seed_starts p.error p.genome (seeds ++ (hint ∷ [])) p.table.now p.share p.shapes.now i
  unfolding seed_starts
  seed-given i h = ap (planned_seed p) (sym (get_or-append seeds (hint ∷ []) nan i h))

  hint-given : (i : ℕ) → length seeds ≡ i → planned_seed p hint
      ≡ seed_starts p.error p.genome (seeds ++ (hint ∷ [])) p.table.now p.share p.shapes.now i
  unfolding seed_starts
  hint-given i e = ap (planned_seed p) (sym (get_or_at seeds hint [] nan i e))

pub loop-seed-init : goal.loop-seed-init
loop-seed-init c = begins _ _ _

pub write_table-at-requires : goal.write_table-at-requires
unfolding all_starts
write_table-at-requires c =
    let a = c.args in
    asks _ _ _ _ _ _ c.loop-seed.invariant (less a.self.now a.seeds.now a.hint _ (omega arith)) c.requires _
    (seed-given a.self.now a.seeds.now a.hint _ c.loop-seed-test.true)

pub overflow_add-at : goal.overflow_add-at
unfolding all_starts
overflow_add-at c =
    let a = c.args in
    let w = c.write_table-at in
    omega (
      arith,
      stays-in _ _ _ _ _ _ c.loop-seed.invariant (less a.self.now a.seeds.now a.hint _ (omega arith)) c.requires _
          (seed-given a.self.now a.seeds.now a.hint _ c.loop-seed-test.true) _ w.ensures.0,
    )

pub loop-seed-preserved : goal.loop-seed-preserved
unfolding all_starts
loop-seed-preserved c =
    let a = c.args in
    let w = c.write_table-at in
    goes_on _ _ _ _ _ _ c.loop-seed.invariant (less a.self.now a.seeds.now a.hint _ (omega arith)) c.requires _
    (seed-given a.self.now a.seeds.now a.hint _ c.loop-seed-test.true) w.new.rest w.result w.auto.rest w.ensures

pub write_table-requires : goal.write_table-requires
unfolding all_starts
write_table-requires c =
    let a = c.args in
    asks _ _ _ _ _ _ c.loop-seed.invariant (less a.self.now a.seeds.now a.hint _ (omega arith)) c.requires _
    (hint-given a.self.now a.seeds.now a.hint _ (omega arith))

pub overflow_add-result : goal.overflow_add-result
unfolding all_starts
overflow_add-result c =
    let a = c.args in
    omega (
      arith,
      stays-in _ _ _ _ _ _ c.loop-seed.invariant (less a.self.now a.seeds.now a.hint _ (omega arith)) c.requires _
          (hint-given a.self.now a.seeds.now a.hint _ (omega arith)) _ c.write_table.ensures.0,
    )

pub returns : goal.returns
unfolding all_starts
returns c =
    let a = c.args in
    let w = c.write_table in
    ends _ _ _ _ _ _
    (goes_on _ _ _ _ _ _ c.loop-seed.invariant (less a.self.now a.seeds.now a.hint _ (omega arith)) c.requires _
    (hint-given a.self.now a.seeds.now a.hint _ (omega arith)) w.new.rest w.result w.auto.rest w.ensures)
    (rw length-append (omega arith))
