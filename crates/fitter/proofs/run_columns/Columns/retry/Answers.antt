-- `fitter::run_columns::Columns::retry` meets its contract. Assumes nothing.
use Prim.Native.Nat.{ℕ, zero-le}
use mathlib.Core.Path.{refl, ap, ◌∙◌}
use native.Mathlib.Omega.{arith}
use lib.ListN.{length}
use Rattle.meaning.proofs.Loops.{begins, goes_on, ends}
use Rattle.fitter.specs.Retrying.{retry_step, retried_of}
use Rattle.fitter.specs.declared.runs.Run.{Run}
use Rattle.fitter.proofs.run_columns.Columns.retry.Goals as goal

pub loop-i-init : goal.loop-i-init
loop-i-init c = record { retried = begins _ _ _ _ _ zero-le refl; stands = refl }

pub loop-i-preserved : goal.loop-i-preserved
loop-i-preserved c =
    let a = c.args in
    let l = c.loop-i in
    record {
      retried = goes_on _ _ _ _ l.invariant.retried _ (omega arith)
          (c.retry_run-kept.ensures.value
          ∙ ap (λ (m : ℕ). retry_step a.bins.now a.setup a.lists.now m l.i c.run_at.result l.kept) l.auto.table
          ∙ ap (λ (run : Run). retry_step a.bins.now a.setup a.lists.now (length a.table.now) l.i run l.kept) c.run_at.ensures);
      stands = c.retry_run-kept.ensures.table_unchanged ∙ l.invariant.stands;
    }

pub returns-clause-value : goal.returns-clause-value
unfolding retried_of
returns-clause-value c = ends _ _ _ _ c.loop-i.invariant.retried (omega arith)
