-- `fitter::starts::start_table` meets its contract. Assumes nothing.
use mathlib.Core.Path.{refl}
use native.Mathlib.Omega.{arith}
use Rattle.meaning.proofs.Says.{refusal_numbered}
use Rattle.fitter.proofs.starts.start_table.Goals as goal

pub returns-in_default : goal.returns-in_default
returns-in_default c =
    let n = c.in_default.ensures in
    record {
      value = λ e. absurd (omega (arith, n, e, refusal_numbered c.in_default.field-0));
      result_value = λ e. refl;
    }

pub returns-in-FreeSingletonWeibull : goal.returns-in-FreeSingletonWeibull
returns-in-FreeSingletonWeibull c =
    let n = c.in-Ok.ensures in
    record { value = λ e. rw c.in-FreeSingletonWeibull.is; result_value = λ e. absurd (omega (arith, n, e)) }

pub returns-in-SingletonPareto : goal.returns-in-SingletonPareto
returns-in-SingletonPareto c =
    let n = c.in-Ok.ensures in
    record { value = λ e. rw c.in-SingletonPareto.is; result_value = λ e. absurd (omega (arith, n, e)) }
