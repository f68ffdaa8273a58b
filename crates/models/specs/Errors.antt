-- The error component, as models.rs has it, operation by operation. Definitions only. Assumes nothing.
use Rattle.std.specs.Prelude.{ℕ, cond, Float, Option, None, Some}
use Rattle.std.specs.Float.Ieee.{neg, eq}
use Rattle.meaning.specs.Reply.{Reply}
use Rattle.routines.specs.Constants.{zero, one}
use Rattle.routines.specs.Expm1.{expm1_of}
use Rattle.routines.specs.Ln.{ln_of}
use Rattle.routines.specs.Ops.{◌⊕◌, ◌⊖◌, ◌⊗◌, ◌⊘◌, of_count}
use Rattle.helpers.specs.LogSums.{ln_sub_exp_of}
use Rattle.helpers.specs.Masses.{in_window}
use Rattle.models.specs.declared.errors.ErrorParams.{ErrorParams}

unfoldable pub factor_of : Option Float → Float → Float
factor_of None offset = one
factor_of (Some beta) offset = let value = beta ⊗ offset in cond (eq value zero) one (expm1_of value ⊘ value)

unfoldable pub survival_of : ErrorParams → Float → Float
survival_of p count =
    let offset = ln_of (count ⊖ one) in neg p.tail_exponent ⊗ offset ⊗ factor_of p.weibull_shape offset

abbrev pub ln_tail_of : ErrorParams → Float
ln_tail_of p = ln_of (one ⊖ p.singleton_probability)

unfoldable pub log_probability_of : ErrorParams → Float → Float
log_probability_of p count =
    cond (eq count one) (ln_of p.singleton_probability)
    (ln_tail_of p ⊕ ln_sub_exp_of (survival_of p count) (survival_of p (count ⊕ one)))

unfoldable pub log_window_mass_to : ErrorParams → ℕ → Float
log_window_mass_to p top = ln_of (neg (expm1_of (ln_tail_of p ⊕ survival_of p (of_count top ⊕ one))))

unfoldable pub log_window_mass_of : ErrorParams → ℕ → Reply Float
log_window_mass_of p top = in_window top (log_window_mass_to p top)
