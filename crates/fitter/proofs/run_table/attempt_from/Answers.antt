-- `fitter::run_table::attempt_from` meets its contract. Assumes nothing.
use Rattle.std.proofs.Common.{◌≡◌, ℕ, ◌<◌, List, length, get_or, ap, ◌∙◌, refl, sym, subst}
use lib.Ieee.{Float}
use Rattle.models.specs.declared.problems.Problem.{Problem}
use Rattle.fitter.specs.declared.runs.LentRun.{LentRun}
use Rattle.fitter.specs.Columns.{run_in, past_lent}
use Rattle.fitter.specs.Runs.{run_from}
use Rattle.fitter.specs.Turns.{Turned, turned_of, turn_of}
use Rattle.fitter.proofs.Turned.{begins, goes_on, ends}
use Rattle.fitter.proofs.run_table.attempt_from.Goals as goal

pub loop-t-init : goal.loop-t-init
loop-t-init c = record {
  room = refl;
  turning = begins c.args.bins.now c.args.setup c.args.lists.now (length c.args.table.now) (run_in c.args.runs.now) (length c.args.runs.now) c.args.table.now (turned_of c.begin_turns-t.result) c.begin_turns-t.ensures;
}

-- the turn took the run at its place, with the table as long as it was
turn-is : (bins : List ℕ) (setup : Problem) (runs : List LentRun) (lists : List Float) (room now : ℕ) (t r : Turned)
    → now ≡ room
    → r ≡ turn_of bins setup lists now (run_from (get_or runs t.next past_lent)) t
    → r ≡ turn_of bins setup lists room (run_in runs t.next) t
unfolding run_in
turn-is bins setup runs lists room now t r e g =
    g ∙ ap (λ (m : ℕ). turn_of bins setup lists m (run_from (get_or runs t.next past_lent)) t) e

pub loop-t-smaller : goal.loop-t-smaller
loop-t-smaller c =
    let a = c.args in
    let n = length a.table.now in
    let made = turn-is a.bins.now a.setup a.runs.now a.lists.now n _ (turned_of c.loop-t.t) (turned_of c.turn-t.result) c.loop-t.invariant.room c.turn-t.ensures.value in
    (goes_on a.bins.now a.setup a.lists.now n (run_in a.runs.now) (length a.runs.now) a.table.now (turned_of c.loop-t.t) (turned_of c.turn-t.result)
    c.loop-t.table c.turn-t.new.table c.loop-t.invariant.turning c.loop-t-test.true made c.turn-t.ensures.table_unchanged).1

pub loop-t-preserved : goal.loop-t-preserved
loop-t-preserved c =
    let a = c.args in
    let n = length a.table.now in
    let made = turn-is a.bins.now a.setup a.runs.now a.lists.now n _ (turned_of c.loop-t.t) (turned_of c.turn-t.result) c.loop-t.invariant.room c.turn-t.ensures.value in
    record {
      room = c.turn-t.auto.table ∙ c.loop-t.invariant.room;
      turning =
          (goes_on a.bins.now a.setup a.lists.now n (run_in a.runs.now) (length a.runs.now) a.table.now (turned_of c.loop-t.t) (turned_of c.turn-t.result)
          c.loop-t.table c.turn-t.new.table c.loop-t.invariant.turning c.loop-t-test.true made c.turn-t.ensures.table_unchanged).0;
    }

pub turn-t-requires : goal.turn-t-requires
turn-t-requires c =
    subst (λ (m : ℕ). c.loop-t.t.next < m) (sym c.loop-t.invariant.turning.runs) c.loop-t-test.true

pub returns-clause-value : goal.returns-clause-value
returns-clause-value c =
    let a = c.args in
    (ends a.bins.now a.setup a.lists.now (length a.table.now) (run_in a.runs.now) (length a.runs.now) a.table.now
    (turned_of c.loop-t.t) c.loop-t.table _ c.end_turns.ensures c.loop-t-test.false c.loop-t.invariant.turning).0

pub returns-clause-table_unchanged : goal.returns-clause-table_unchanged
returns-clause-table_unchanged c =
    let a = c.args in
    (ends a.bins.now a.setup a.lists.now (length a.table.now) (run_in a.runs.now) (length a.runs.now) a.table.now
    (turned_of c.loop-t.t) c.loop-t.table _ c.end_turns.ensures c.loop-t-test.false c.loop-t.invariant.turning).1
