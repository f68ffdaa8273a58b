-- `search::turns::run` meets its contract. Assumes nothing.
use borrow.Author.Rules.{rules}
use Prim.Native.Nat.{ℕ, ◌+◌, ◌-◌}
use mathlib.Core.Path.{◌≡◌, sym, ap, ◌∙◌}
use mathlib.Core.List.{List}
use native.Mathlib.Omega.{arith}
use lib.Ieee.{Float}
use Rattle.search.specs.Priced.{price_in}
use Rattle.search.specs.Progress.{state_of}
use Rattle.search.specs.Simplex.{vertices_in, state_in}
use Rattle.search.specs.Turns.{State, next_of, turns_of}
use Rattle.search.proofs.Parts.{stays, one-made, none_left}
use Rattle.search.proofs.PricesKept.{none-priced, kept-then}
use Rattle.search.proofs.SameSimplex.{none-changed, same-then, state-last}
use Rattle.search.proofs.Turned.{below-cap}
use Rattle.search.proofs.turns.run.Goals as goal

pub loop-init : goal.loop-init
unfolding vertices_in
loop-init c =
    let a = c.args in
    let e : a.limit - 0 ≡ a.limit = omega arith in
    record {
      same = none-changed;
      kept = none-priced;
      state = ap (λ (n : ℕ). turns_of (price_in a.prices.now) a.cap n (state_of a.w a.rows.now a.progress)) e;
    }

pub returns-then-has_ended : goal.returns-then-has_ended
returns-then-has_ended c =
    let a = c.args in
    let s : State = state_in c.loop.simplex c.loop.now in
    let e : s ≡ turns_of (price_in a.prices.now) a.cap a.limit (state_of a.w a.rows.now a.progress) =
    sym (stays (price_in a.prices.now) a.cap (a.limit - c.loop.counter) s (sym c.has_ended.ensures ∙ c.if-has_ended.true))
    ∙ c.loop.invariant.state in
    record {
      result_after = search (rules, state-last c.loop.invariant.same c.loop.now _ e);
      kept = c.loop.invariant.kept;
    }

pub turn-now-requires : goal.turn-now-requires
turn-now-requires c =
    let few = below-cap c.args.cap (state_in c.loop.simplex c.loop.now) (sym c.has_ended.ensures ∙ c.if-has_ended.false) in
    omega arith

pub loop-preserved : goal.loop-preserved
loop-preserved c =
    let a = c.args in
    let cost : List Float → Float = price_in a.prices.now in
    let left : ℕ = a.limit - c.loop.counter in
    let s : State = state_in c.loop.simplex c.loop.now in
    let t : State = state_in c.turn-now.new.simplex c.turn-now.result in
    let e : a.limit - (c.loop.counter + 1) ≡ left - 1 = omega arith in
    record {
      same = same-then c.loop.invariant.same c.turn-now.ensures.same;
      kept = kept-then c.loop.invariant.kept c.turn-now.ensures.kept;
      state = ap (λ (n : ℕ). turns_of cost a.cap n t) e
          ∙ one-made cost a.cap left s t (omega arith) (sym c.has_ended.ensures ∙ c.if-has_ended.false)
          (c.turn-now.ensures.result_after ∙ ap (λ (f : List Float → Float). next_of f s) c.loop.invariant.kept.prices)
          ∙ c.loop.invariant.state;
    }

pub returns : goal.returns
returns c =
    let a = c.args in
    let s : State = state_in c.loop.simplex c.loop.now in
    let e : s ≡ turns_of (price_in a.prices.now) a.cap a.limit (state_of a.w a.rows.now a.progress) =
    none_left (price_in a.prices.now) a.cap (a.limit - c.loop.counter) s (omega arith) ∙ c.loop.invariant.state in
    record {
      result_after = search (rules, state-last c.loop.invariant.same c.loop.now _ e);
      kept = c.loop.invariant.kept;
    }
