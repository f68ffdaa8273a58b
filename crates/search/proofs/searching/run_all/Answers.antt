-- `search::searching::run_all` meets its contract. Assumes nothing.
use Prim.Native.Nat.{ℕ, ◌+◌, ◌-◌, ◌*◌, ◌≤◌, ◌<◌}
use mathlib.Core.Path.{◌≡◌, ap, ◌∙◌}
use mathlib.Core.List.{List}
use native.Mathlib.Omega.{arith}
use lib.ListN.{length, get_or}
use lib.Ieee.{Float}
use borrow.Rule.Slice.PartMut.{mid_of}
use Rattle.meaning.specs.Flags.{is_set, byte_of}
use Rattle.meaning.specs.Over.{over}
use Rattle.search.specs.Lists.{list_of}
use Rattle.search.specs.Priced.{price_in}
use Rattle.search.specs.Progress.{state_of}
use Rattle.search.specs.Searches.{after_at, simplexes_after, iterations_after, stopped_after}
use Rattle.search.specs.Turns.{State, turns_of}
use Rattle.search.specs.Vertices.{flat, rows_in, vertex_at}
use Rattle.search.specs.declared.turns.Progress.{Progress}
use Rattle.search.proofs.Blocks.{upto, as-found, goes_on, ends}
use Rattle.search.proofs.Elements as each
use Rattle.search.proofs.Fronts.{done-front}
use Rattle.search.proofs.PricesKept.{kept-then}
use Rattle.search.proofs.RowLaws.{row-length}
use Rattle.search.proofs.Searched.{block-is, turned}
use Rattle.search.proofs.searching.run_all.Goals as goal

pub loop-i-preserved : goal.loop-i-preserved
loop-i-preserved c =
    let a = c.args in
    let i : ℕ = c.loop-i.i in
    let inv = c.loop-i.invariant in
    let h : i < a.runs = c.loop-i-test.true in
    let size : ℕ = a.w * a.w in
    let cost : List Float → Float = price_in a.prices.now in
    let after : ℕ → State =
    after_at a.w a.simplexes.now a.iterations.now a.stopped.now a.runs cost a.cap a.limit in
    let rows_of : ℕ → List Float = λ (j : ℕ). flat (after j).vertices in
    let room : a.runs * size ≤ length a.simplexes.now = c.requires.4 in
    let lent : List Float = mid_of (i * size) (i * size + size - i * size) c.loop-i.simplexes in
    let found : lent ≡ vertex_at (rows_in size a.runs a.simplexes.now) i =
    as-found size a.runs rows_of a.simplexes.now c.loop-i.simplexes i inv.rows h in
    let found-long : length lent ≡ size = ap length found ∙ row-length size a.runs a.simplexes.now i h room in
    let k = c.run-after in
    let q = c.is_set in
    let from : Progress = record { iterations = get_or c.loop-i.iterations i 0; stopped = q.result } in
    let e : state_of a.w k.new.rows k.result ≡ after i =
    turned a.w a.simplexes.now a.iterations.now a.stopped.now a.runs cost a.cap a.limit i _ _ _ _
    found (inv.counts.left i (omega arith)) (q.ensures ∙ ap is_set (inv.ends.left i (omega arith)))
    (k.ensures.result_after ∙ ap (λ (f : List Float → Float). turns_of f a.cap a.limit (state_of a.w lent from)) inv.kept.prices) in
    let full : length k.new.rows ≡ size = k.auto.rows ∙ found-long in
    record {
      kept = kept-then inv.kept k.ensures.kept;
      rows = goes_on size a.runs rows_of a.simplexes.now c.loop-i.simplexes i inv.rows room h _ full
          (block-is a.w _ _ full (ap (λ (x : State). x.vertices) e));
      counts = each.goes_on _ _ _ inv.counts _ (omega (arith, c.requires.5)) (ap (λ (x : State). x.iterations) e);
      ends = each.goes_on _ _ _ inv.ends _ (omega (arith, c.requires.6))
          (c.byte_of.ensures ∙ ap (λ (x : State). byte_of x.stopped) e);
    }

pub returns-clause-simplexes_after : goal.returns-clause-simplexes_after
unfolding simplexes_after
returns-clause-simplexes_after c =
    let a = c.args in
    let after : ℕ → State =
    after_at a.w a.simplexes.now a.iterations.now a.stopped.now a.runs
    (price_in a.prices.now) a.cap a.limit in
    ends (a.w * a.w) a.runs (λ (j : ℕ). flat (after j).vertices) a.simplexes.now c.loop-i.simplexes c.loop-i.i
    c.loop-i.invariant.rows c.requires.4 c.loop-i-test.false

-- the loop ends at the last run
whole : (f : ℕ → ℕ) (held now : List ℕ) (i runs : ℕ) → i ≤ runs → runs ≤ i → each.Passed (λ (j x : ℕ). f j) 0 held now i
    → now ≡ over (list_of f runs) held
whole f held now i runs l m p =
    let e : i ≡ runs = omega arith in
    done-front (λ (j x : ℕ). f j) 0 held now i p ∙ ap (λ (n : ℕ). over (list_of f n) held) e

pub returns-clause-iterations_after : goal.returns-clause-iterations_after
unfolding iterations_after
returns-clause-iterations_after c =
    let a = c.args in
    let after : ℕ → State =
    after_at a.w a.simplexes.now a.iterations.now a.stopped.now a.runs
    (price_in a.prices.now) a.cap a.limit in
    let u : c.loop-i.i ≤ a.runs =
    upto (a.w * a.w) a.runs (λ (j : ℕ). flat (after j).vertices) a.simplexes.now c.loop-i.simplexes c.loop-i.i
    c.loop-i.invariant.rows in
    whole (λ (j : ℕ). (after j).iterations) a.iterations.now c.loop-i.iterations c.loop-i.i a.runs u
    c.loop-i-test.false c.loop-i.invariant.counts

pub returns-clause-stopped_after : goal.returns-clause-stopped_after
unfolding stopped_after
returns-clause-stopped_after c =
    let a = c.args in
    let after : ℕ → State =
    after_at a.w a.simplexes.now a.iterations.now a.stopped.now a.runs
    (price_in a.prices.now) a.cap a.limit in
    let u : c.loop-i.i ≤ a.runs =
    upto (a.w * a.w) a.runs (λ (j : ℕ). flat (after j).vertices) a.simplexes.now c.loop-i.simplexes c.loop-i.i
    c.loop-i.invariant.rows in
    whole (λ (j : ℕ). byte_of (after j).stopped) a.stopped.now c.loop-i.stopped c.loop-i.i a.runs u
    c.loop-i-test.false c.loop-i.invariant.ends
