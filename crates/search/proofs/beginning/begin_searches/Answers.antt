-- `search::beginning::begin_searches` meets its contract: each `return` is what the chain answers, and the slices hold
-- the first simplexes by `cost` itself. Assumes nothing.
use Prim.Native.Nat.{ℕ, ◌-◌, ◌*◌, ◌/◌, ◌%◌, ◌≤◌, ◌<◌}
use mathlib.Core.Path.{◌≡◌, refl, sym, ap, subst, ◌∙◌}
use mathlib.Core.Bool.{not}
use mathlib.Core.List.{List}
use native.Mathlib.Nat.{div-mul-le_self}
use native.Mathlib.Omega.{arith}
use lib.Dec.{eqb}
use lib.ListN.{length}
use lib.Ieee.{Float}
use Rattle.meaning.specs.Lent.{on_give}
use Rattle.meaning.specs.Reply.{Reply, give, first_of}
use Rattle.meaning.proofs.Says.{handed_on, refusal_numbered}
use Rattle.search.specs.Beginning.{size_of, runs_in, ragged, simplexes_begun, iterations_begun, stopped_begun}
use Rattle.search.specs.Beginning.{begin_searches_of}
use Rattle.search.specs.Priced.{price_in}
use Rattle.search.specs.Prices.{ready_price_of, price_of, width_of}
use Rattle.search.specs.Refusing.{search_tests}
use Rattle.search.specs.Searches.{lent_of, ready_after}
use Rattle.models.specs.declared.problems.Problem.{Problem}
use Rattle.search.specs.declared.refusing.Lent.{Lent}
use Rattle.search.proofs.Begun.{first_test, begun-refused, begun-given}
use borrow.Author.Rules.{rules}
use Rattle.search.proofs.PricesKept.{stands-last}
use Rattle.search.proofs.ReadyPrices.{ready-is-cost, always-prepared}
use Rattle.search.proofs.SearchPassed.{SearchPassed, search-passed}
use Rattle.search.proofs.Widths.{few-wide, some-wide}
use Rattle.search.proofs.beginning.begin_searches.Goals as goal

-- ---- the numbers of a start
module _ (p : Problem) where
  long-is : (w : ℕ) → w ≡ width_of p → w - 1 ≡ size_of p
  long-is w e = omega arith

  wide : width_of p ≤ 12
  wide = omega (arith, few-wide p.error p.genome)

  more : 1 < width_of p
  more = omega (arith, some-wide p.error p.genome)

-- what is refused
refused-is : (bins : List ℕ) (p : Problem) (starts : List Float) (lent : Lent) (w n : ℕ) → w ≡ width_of p
    → n ≡ first_of (search_tests bins p (length starts / (w - 1)) (not (eqb (length starts % (w - 1)) 0)) lent)
    → n ≡ first_test bins p starts lent
refused-is bins p starts lent w n e r =
    let k = length starts in
    r ∙ ap (λ (d : ℕ). first_of (search_tests bins p (k / d) (not (eqb (k % d) 0)) lent)) (long-is p w e)

pub returns-in_err-search_refusal : goal.returns-in_err-search_refusal
returns-in_err-search_refusal c =
    let a = c.args in
    let p : Problem = a.problem in
    let lent : Lent = lent_of a.simplexes.now a.iterations.now a.stopped.now a.ready.now a.table.now in
    let e = refused-is a.bins.now p a.starts.now lent c.width-w.result _ c.width-w.ensures
    c.in_err-search_refusal.ensures in
    let some = refusal_numbered c.in_err-search_refusal.field-0.0 in
    let answer = begun-refused a.bins.now p a.starts.now lent _ e some in
    record {
      result_value = handed_on _ _ c.from_residual.ensures.1 ∙ answer;
      simplexes_after = ap
          (λ (x : Reply ℕ). on_give x
          (simplexes_begun (price_of a.bins.now p (length a.table.now)) (size_of p) a.starts.now (runs_in p a.starts.now) a.simplexes.now)
          a.simplexes.now) answer;
      iterations_after = ap (λ (x : Reply ℕ). on_give x (iterations_begun (runs_in p a.starts.now) a.iterations.now) a.iterations.now) answer;
      stopped_after = ap (λ (x : Reply ℕ). on_give x (stopped_begun (runs_in p a.starts.now) a.stopped.now) a.stopped.now) answer;
      ready_after = ap (λ (x : Reply ℕ). ready_after p x a.ready.now) answer;
      table_unchanged = refl;
    }

-- ---- what is known once nothing is refused
pub begin_all-requires : goal.begin_all-requires
begin_all-requires c =
    let a = c.args in
    let p : Problem = a.problem in
    let lent : Lent = lent_of a.simplexes.now a.iterations.now a.stopped.now a.ready.now a.table.now in
    let e : c.width-w.result ≡ width_of p = c.width-w.ensures in
    let d : c.width-w.result - 1 ≡ size_of p = long-is p _ e in
    let none : 0 ≡ first_test a.bins.now p a.starts.now lent =
    refused-is a.bins.now p a.starts.now lent c.width-w.result _ e c.in_ok-search_refusal.ensures in
    let t : SearchPassed a.bins.now p (runs_in p a.starts.now) (ragged p a.starts.now) lent = search-passed _ _ _ _ _ none in
    let n : ℕ = length a.starts.now in
    let size : n / (c.width-w.result - 1) * (c.width-w.result * c.width-w.result) ≡ n / size_of p * (width_of p * width_of p) =
    λ j. n / d j * (e j * e j) in (
      rw e (more p),
      rw e (wide p),
      rw d t.runs-few,
      div-mul-le_self n (c.width-w.result - 1),
      subst (λ (k : ℕ). k ≤ length a.simplexes.now) (sym size) t.each-run.simplexes-room,
      rw d t.each-run.iterations-room,
      rw d t.each-run.stopped-room,
    )

pub returns-in_err-prepare_window : goal.returns-in_err-prepare_window
returns-in_err-prepare_window c =
    let a = c.args in
    let p : Problem = a.problem in
    let lent : Lent = lent_of a.simplexes.now a.iterations.now a.stopped.now a.ready.now a.table.now in
    let none = refused-is a.bins.now p a.starts.now lent c.width-w.result _ c.width-w.ensures
    c.in_ok-search_refusal.ensures in
    let t : SearchPassed a.bins.now p (runs_in p a.starts.now) (ragged p a.starts.now) lent = search-passed _ _ _ _ _ none in
    absurd (always-prepared p.window_end a.ready.now t.end-some t.end-few t.ready-room _
    c.in_err-prepare_window.ensures.result_value)

pub returns : goal.returns
unfolding price_in
returns c =
    let a = c.args in
    let p : Problem = a.problem in
    let lent : Lent = lent_of a.simplexes.now a.iterations.now a.stopped.now a.ready.now a.table.now in
    let e : c.width-w.result ≡ width_of p = c.width-w.ensures in
    let d : c.width-w.result - 1 ≡ size_of p = long-is p _ e in
    let none : 0 ≡ first_test a.bins.now p a.starts.now lent =
    refused-is a.bins.now p a.starts.now lent c.width-w.result _ e c.in_ok-search_refusal.ensures in
    let t : SearchPassed a.bins.now p (runs_in p a.starts.now) (ragged p a.starts.now) lent = search-passed _ _ _ _ _ none in
    let X : List Float = a.starts.now in
    let n : ℕ = length X in
    let ep : ready_price_of a.bins.now p c.prepare_window.new.out (length a.table.now) ≡ price_of a.bins.now p (length a.table.now) =
    ap (λ (x : List Float). ready_price_of a.bins.now p x (length a.table.now)) c.prepare_window.ensures.out_after
    ∙ ready-is-cost a.bins.now p a.ready.now t.end-some t.end-few t.ready-room (length a.table.now) in
    let k = c.begin_all in
    let answer : give (runs_in p X) ≡ begin_searches_of a.bins.now p X lent = begun-given a.bins.now p X lent none in
    record {
      result_value = ap (λ (x : ℕ). give (n / x)) d ∙ answer;
      simplexes_after = k.ensures.simplexes_after ∙ (λ j. simplexes_begun (ep j) (d j) X (n / d j) a.simplexes.now)
          ∙ ap
          (λ (x : Reply ℕ). on_give x
          (simplexes_begun (price_of a.bins.now p (length a.table.now)) (size_of p) X (runs_in p X) a.simplexes.now)
          a.simplexes.now) answer;
      iterations_after = k.ensures.iterations_after ∙ (λ j. iterations_begun (n / d j) a.iterations.now)
          ∙ ap (λ (x : Reply ℕ). on_give x (iterations_begun (runs_in p X) a.iterations.now) a.iterations.now) answer;
      stopped_after = k.ensures.stopped_after ∙ (λ j. stopped_begun (n / d j) a.stopped.now)
          ∙ ap (λ (x : Reply ℕ). on_give x (stopped_begun (runs_in p X) a.stopped.now) a.stopped.now) answer;
      ready_after = c.prepare_window.ensures.out_after ∙ ap (λ (x : Reply ℕ). ready_after p x a.ready.now) answer;
      table_unchanged = search (rules, stands-last k.ensures.kept (runs_in p X) _ answer);
    }
