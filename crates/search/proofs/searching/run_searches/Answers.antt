-- `search::searching::run_searches` meets its contract: each `return` is what the chain answers, and the slices hold what
-- the runs come to by `cost` itself. Assumes nothing.
use Prim.Native.Nat.{ℕ, ◌≤◌, ◌<◌}
use mathlib.Core.Path.{◌≡◌, refl, ap, ◌∙◌}
use mathlib.Core.Bool.{false}
use mathlib.Core.List.{List}
use native.Mathlib.Omega.{arith}
use lib.ListN.{length}
use lib.Ieee.{Float}
use Rattle.meaning.specs.Lent.{on_give}
use Rattle.meaning.specs.Reply.{Reply, give}
use Rattle.search.specs.Priced.{price_in}
use Rattle.meaning.proofs.Says.{handed_on, refusal_numbered}
use Rattle.search.specs.Prices.{ready_price_of, price_of, cap_of, width_of}
use Rattle.search.specs.Searches.{simplexes_after, iterations_after, stopped_after, lent_of, ready_after}
use Rattle.search.specs.Searches.{run_searches_of}
use Rattle.models.specs.declared.problems.Problem.{Problem}
use Rattle.search.specs.declared.refusing.Lent.{Lent}
use borrow.Author.Rules.{rules}
use Rattle.search.proofs.PricesKept.{stands-last}
use Rattle.search.proofs.ReadyPrices.{ready-is-cost, always-prepared}
use Rattle.search.proofs.SearchPassed.{SearchPassed, search-passed}
use Rattle.search.proofs.Searched.{runs-refused, runs-given, cap-few}
use Rattle.search.proofs.Widths.{few-wide, some-wide}
use Rattle.search.proofs.searching.run_searches.Goals as goal

-- what the slices come to by the answer x
module _ (p : Problem) (runs limit : ℕ) (price : List Float → Float) (simplexes : List Float) (iterations stopped : List ℕ) where
  abbrev rows_by : Reply ℕ → List Float
  rows_by x =
      on_give x (simplexes_after (width_of p) simplexes iterations stopped runs price (cap_of p.genome) limit) simplexes

  abbrev counts_by : Reply ℕ → List ℕ
  counts_by x =
      on_give x (iterations_after (width_of p) simplexes iterations stopped runs price (cap_of p.genome) limit) iterations

  abbrev ends_by : Reply ℕ → List ℕ
  ends_by x = on_give x (stopped_after (width_of p) simplexes iterations stopped runs price (cap_of p.genome) limit) stopped

pub returns-in_err-search_refusal : goal.returns-in_err-search_refusal
returns-in_err-search_refusal c =
    let a = c.args in
    let p : Problem = a.problem in
    let price : List Float → Float = price_of a.bins.now p (length a.table.now) in
    let lent : Lent = lent_of a.simplexes.now a.iterations.now a.stopped.now a.ready.now a.table.now in
    let some = refusal_numbered c.in_err-search_refusal.field-0.0 in
    let answer = runs-refused a.bins.now p a.runs lent _ c.in_err-search_refusal.ensures some in
    record {
      result_value = handed_on _ _ c.from_residual.ensures.1 ∙ answer;
      simplexes_after = ap (rows_by p a.runs a.limit price a.simplexes.now a.iterations.now a.stopped.now) answer;
      iterations_after = ap (counts_by p a.runs a.limit price a.simplexes.now a.iterations.now a.stopped.now) answer;
      stopped_after = ap (ends_by p a.runs a.limit price a.simplexes.now a.iterations.now a.stopped.now) answer;
      ready_after = ap (λ (x : Reply ℕ). ready_after p x a.ready.now) answer;
      table_unchanged = refl;
    }

-- ---- what is known once nothing is refused
wide : (p : Problem) → width_of p ≤ 12
wide p = omega (arith, few-wide p.error p.genome)

more : (p : Problem) → 1 < width_of p
more p = omega (arith, some-wide p.error p.genome)

pub run_all-requires : goal.run_all-requires
run_all-requires c =
    let a = c.args in
    let p : Problem = a.problem in
    let lent : Lent = lent_of a.simplexes.now a.iterations.now a.stopped.now a.ready.now a.table.now in
    let t : SearchPassed a.bins.now p a.runs false lent =
    search-passed _ _ _ _ _ c.in_ok-search_refusal.ensures in
    let e : c.width-w.result ≡ width_of p = c.width-w.ensures in (
      rw e (more p),
      rw e (wide p),
      rw c.iteration_cap-cap.ensures (cap-few p.genome),
      t.runs-few,
      rw e t.each-run.simplexes-room,
      t.each-run.iterations-room,
      t.each-run.stopped-room,
    )

pub returns-in_err-prepare_window : goal.returns-in_err-prepare_window
returns-in_err-prepare_window c =
    let a = c.args in
    let p : Problem = a.problem in
    let lent : Lent = lent_of a.simplexes.now a.iterations.now a.stopped.now a.ready.now a.table.now in
    let t : SearchPassed a.bins.now p a.runs false lent = search-passed _ _ _ _ _ c.in_ok-search_refusal.ensures in
    absurd (always-prepared p.window_end a.ready.now t.end-some t.end-few t.ready-room _
    c.in_err-prepare_window.ensures.result_value)

pub returns : goal.returns
unfolding price_in
returns c =
    let a = c.args in
    let p : Problem = a.problem in
    let price : List Float → Float = price_of a.bins.now p (length a.table.now) in
    let lent : Lent = lent_of a.simplexes.now a.iterations.now a.stopped.now a.ready.now a.table.now in
    let none = c.in_ok-search_refusal.ensures in
    let t : SearchPassed a.bins.now p a.runs false lent = search-passed _ _ _ _ _ none in
    let X : List Float = a.simplexes.now in
    let I : List ℕ = a.iterations.now in
    let S : List ℕ = a.stopped.now in
    let ew : c.width-w.result ≡ width_of p = c.width-w.ensures in
    let ec : c.iteration_cap-cap.result ≡ cap_of p.genome = c.iteration_cap-cap.ensures in
    let ep : ready_price_of a.bins.now p c.prepare_window.new.out (length a.table.now) ≡ price =
    ap (λ (x : List Float). ready_price_of a.bins.now p x (length a.table.now)) c.prepare_window.ensures.out_after
    ∙ ready-is-cost a.bins.now p a.ready.now t.end-some t.end-few t.ready-room (length a.table.now) in
    let k = c.run_all in
    let answer : give a.runs ≡ run_searches_of a.bins.now p a.runs lent = runs-given a.bins.now p a.runs lent none in
    record {
      result_value = answer;
      simplexes_after = k.ensures.simplexes_after ∙ (λ j. simplexes_after (ew j) X I S a.runs (ep j) (ec j) a.limit)
          ∙ ap (rows_by p a.runs a.limit price X I S) answer;
      iterations_after = k.ensures.iterations_after ∙ (λ j. iterations_after (ew j) X I S a.runs (ep j) (ec j) a.limit)
          ∙ ap (counts_by p a.runs a.limit price X I S) answer;
      stopped_after = k.ensures.stopped_after ∙ (λ j. stopped_after (ew j) X I S a.runs (ep j) (ec j) a.limit)
          ∙ ap (ends_by p a.runs a.limit price X I S) answer;
      ready_after = c.prepare_window.ensures.out_after ∙ ap (λ (x : Reply ℕ). ready_after p x a.ready.now) answer;
      table_unchanged = search (rules, stands-last k.ensures.kept a.runs _ answer);
    }
