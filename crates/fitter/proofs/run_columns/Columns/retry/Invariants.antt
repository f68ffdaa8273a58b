-- `fitter::run_columns::Columns::retry` meets its contract. Assumes nothing.
use Prim.Native.Nat.{ℕ}
use mathlib.Core.Path.{◌≡◌}
use lib.ListN.{length, drop}
use Rattle.meaning.proofs.Loops.{Folded}
use Rattle.fitter.specs.Columns.{runs_in, run_at}
use Rattle.fitter.specs.Retrying.{table_from, retry_step}
use Rattle.fitter.specs.declared.judging.Held.{Held}
use Rattle.fitter.proofs.run_columns.Columns.retry.Given as goal

abbrev pub invariant-loop-i : goal.invariant-loop-i
invariant-loop-i l = record {
  retried : Folded (λ (j : ℕ) (h : Held). retry_step l.bins l.setup l.lists (length l.initial.table) j (run_at l.self j) h)
      l.initial.kept 0 (runs_in l.self) l.kept l.i;
  stands : drop (table_from l.setup) l.table ≡ drop (table_from l.setup) l.initial.table;
}
