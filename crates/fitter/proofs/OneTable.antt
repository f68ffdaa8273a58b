-- What `start_table` hands out is one thing: two references that keep its contract hold the same numbers, and are the
-- same memory where there is an answer. `held` is what a reference holds. Assumes nothing.
use mathlib.Core.Path.{◌≡◌, ap}
use mathlib.Core.List.{List, []}
use mathlib.Core.Logic.{⊎_elim}
use lib.Ieee.{Float}
use lib.ListN.{length}
use Rattle.meaning.specs.Reply.{first_of}
use Rattle.meaning.proofs.Unique.{once}
use Rattle.models.specs.declared.families.ErrorModel.{ErrorModel}
use Rattle.fitter.specs.StartTables.{table_of, wrong_tables}
use Rattle.fitter.proofs.Answers.{number}

module _ {R : Type 0} (held : R → List Float) (error : ErrorModel) (pareto weibull r s : R)
    (took-r : 0 ≡ first_of (wrong_tables (length (held pareto)) (length (held weibull))) → r ≡ table_of error pareto weibull)
    (none-r : 7 ≡ first_of (wrong_tables (length (held pareto)) (length (held weibull))) → held r ≡ [])
    (took-s : 0 ≡ first_of (wrong_tables (length (held pareto)) (length (held weibull))) → s ≡ table_of error pareto weibull)
    (none-s : 7 ≡ first_of (wrong_tables (length (held pareto)) (length (held weibull))) → held s ≡ []) where
  pub same_memory : 0 ≡ first_of (wrong_tables (length (held pareto)) (length (held weibull))) → r ≡ s
  same_memory e = once (took-r e) (took-s e)

  pub same-table : held r ≡ held s
  same-table = ⊎_elim (λ e. ap held (same_memory e)) (λ e. once (none-r e) (none-s e)) (number (length (held pareto)) (length (held weibull)))
