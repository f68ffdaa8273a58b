-- `search::beginning::begin_all` meets its contract. Assumes nothing.
use borrow.Author.Rules.{rules}
use Prim.Native.Nat.{ℕ, ◌+◌, ◌-◌, ◌*◌, ◌≤◌, ◌<◌}
use mathlib.Core.Path.{◌≡◌, refl, ap, ◌∙◌}
use mathlib.Core.List.{List}
use lib.ListN.{length, replicate}
use lib.Seq.{length-take-le}
use lib.Ieee.{Float}
use borrow.Rule.Slice.PartMut.{mid_of}
use Rattle.search.specs.Beginning.{start_at, simplexes_begun, iterations_begun, stopped_begun}
use Rattle.search.specs.Firsts.{first_simplex}
use Rattle.search.specs.Priced.{price_in}
use Rattle.search.specs.Vertices.{flat, rows_in}
use Rattle.search.proofs.Blocks.{as-found, goes_on, ends}
use Rattle.search.proofs.Fronts.{zeros-over}
use Rattle.search.proofs.PricesKept.{kept-then}
use Rattle.search.proofs.RowLaws.{row-length}
use Rattle.search.proofs.RowParts.{row-lent}
use Rattle.search.proofs.Searched.{block-is}
use Rattle.search.proofs.beginning.begin_all.Goals as goal

pub loop-i-preserved : goal.loop-i-preserved
loop-i-preserved c =
    let a = c.args in
    let i : ℕ = c.loop-i.i in
    let inv = c.loop-i.invariant in
    let h : i < a.runs = c.loop-i-test.true in
    let size : ℕ = a.w * a.w in
    let long : ℕ = a.w - 1 in
    let cost : List Float → Float = price_in a.prices.now in
    let start_of : ℕ → List Float = λ (j : ℕ). start_at long a.starts.now a.runs j in
    let rows_of : ℕ → List Float = λ (j : ℕ). flat (first_simplex cost (start_of j)) in
    let room : a.runs * size ≤ length a.simplexes.now = c.requires.4 in
    let lent : List Float = mid_of (i * size) (i * size + size - i * size) c.loop-i.simplexes in
    let lent_start : List Float = mid_of (i * long) (i * long + long - i * long) a.starts.now in
    let start_is : lent_start ≡ start_of i = row-lent long a.runs a.starts.now i (i * long) refl h in
    let lent-long : length lent ≡ size =
    ap length (as-found size a.runs rows_of a.simplexes.now c.loop-i.simplexes i inv.rows h)
    ∙ row-length size a.runs a.simplexes.now i h room in
    let k = c.first_simplex in
    let e : rows_in a.w a.w k.new.rows ≡ first_simplex cost (start_of i) =
    k.ensures.rows_after
    ∙ ap (λ (f : List Float → Float). first_simplex f lent_start) inv.kept.prices
    ∙ ap (first_simplex cost) start_is in
    let full : length k.new.rows ≡ size = k.auto.rows ∙ lent-long in
    record {
      kept = kept-then inv.kept k.ensures.kept;
      rows = goes_on size a.runs rows_of a.simplexes.now c.loop-i.simplexes i inv.rows room h _ full (block-is a.w _ _ full e);
    }

pub returns-clause-simplexes_after : goal.returns-clause-simplexes_after
unfolding simplexes_begun
returns-clause-simplexes_after c =
    let a = c.args in
    ends (a.w * a.w) a.runs
    (λ (j : ℕ). flat (first_simplex (price_in a.prices.now) (start_at (a.w - 1) a.starts.now a.runs j)))
    a.simplexes.now c.loop-i.simplexes c.loop-i.i c.loop-i.invariant.rows c.requires.4 c.loop-i-test.false

pub returns-clause-iterations_after : goal.returns-clause-iterations_after
unfolding iterations_begun
returns-clause-iterations_after c =
    let a = c.args in
    let h : a.runs ≤ length a.iterations.now = c.requires.5 in
    zeros-over a.runs a.iterations.now _ h
    (c.fill.ensures.after (λ y e. search rules) ∙ ap (λ (n : ℕ). replicate n 0) (length-take-le a.runs a.iterations.now h))

pub returns-clause-stopped_after : goal.returns-clause-stopped_after
unfolding stopped_begun
returns-clause-stopped_after c =
    let a = c.args in
    let h : a.runs ≤ length a.stopped.now = c.requires.6 in
    zeros-over a.runs a.stopped.now _ h
    (c.fill-2.ensures.after (λ y e. search rules) ∙ ap (λ (n : ℕ). replicate n 0) (length-take-le a.runs a.stopped.now h))
