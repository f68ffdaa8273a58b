-- For speed alone: what does not change with the count, worked out once an evaluation; and what one count leaves ready
-- for the next in the likelihood's loop, over a slice in which logarithms and lgammas may stand ready.
-- Nothing here has to be held beside the Rust: `masses-are` and `likelihood-is` in proofs/Points.antt show that it
-- changes no number. Definitions only. Assumes nothing.
use Rattle.std.specs.Prelude.{ℕ, ◌+◌, cond, List, Float}
use Rattle.std.specs.Float.Ieee.{neg, eq}
use Rattle.routines.specs.Constants.{one}
use Rattle.routines.specs.Expm1.{expm1_of}
use Rattle.routines.specs.Ln.{ln_of}
use Rattle.routines.specs.Ops.{◌⊕◌, ◌⊖◌, ◌⊗◌, of_count}
use Rattle.helpers.specs.Hoists.{lobe_of, density_with, shelf_logs_of}
use Rattle.helpers.specs.LogSums.{ln_sub_exp_of, lse3_of}
use Rattle.helpers.specs.Mixtures.{mix_at_of, mix_mass_of}
use Rattle.helpers.specs.Pairs.{lobe_mass_of}
use Rattle.helpers.specs.Prepared.{ln_at, gamma_at}
use Rattle.models.specs.Errors.{factor_of, ln_tail_of}
use Rattle.models.specs.Spectra.{over_observed}
use Rattle.models.specs.declared.errors.ErrorParams.{ErrorParams}
use Rattle.models.specs.declared.likelihoods.Ahead.{Ahead}
use Rattle.models.specs.declared.params.Params.{Params}
use Rattle.models.specs.declared.steady.Steady.{Steady}
use Rattle.models.specs.declared.window_masses.WindowMasses.{WindowMasses}

-- ---- the error component, from logs at hand
-- the tail's survival from a count, by ln(count - 1): `survival_of p count` is `survival_with p (ln_of (count ⊖ one))`
unfoldable pub survival_with : ErrorParams → Float → Float
survival_with p offset = neg p.tail_exponent ⊗ offset ⊗ factor_of p.weibull_shape offset

-- the log probability of a count from the tail's log and the log survivals of the count and of the next
unfoldable pub log_probability_between : ErrorParams → Float → Float → Float → Float → Float
log_probability_between p tail count here next =
    cond (eq count one) (ln_of p.singleton_probability) (tail ⊕ ln_sub_exp_of here next)

-- by the log of the window's end
unfoldable pub window_mass_with : ErrorParams → Float → Float → Float
window_mass_with p tail log = ln_of (neg (expm1_of (tail ⊕ survival_with p log)))

-- ---- once an evaluation
abbrev pub steady_of : Params → Steady
steady_of p = record {
  lobe = lobe_of p.mean p.dispersion;
  second = lobe_of (p.repeat_ratio ⊗ p.mean) p.dispersion;
  ln_tail = ln_tail_of p.error_params;
  logs = shelf_logs_of p.shelf;
}

unfoldable pub masses_at : Params → Steady → List Float → List Float → ℕ → WindowMasses
masses_at p s ready table end =
    record {
      error = window_mass_with p.error_params s.ln_tail (ln_at ready end);
      single = mix_mass_of (lobe_mass_of s.lobe ready end) p.shelf s.logs table end;
      repeat = lobe_mass_of s.second ready end;
    }

-- ---- the likelihood's loop
-- what stands ready for bin i, which holds count i + 1
abbrev pub ahead_of : ErrorParams → List Float → ℕ → Ahead
ahead_of p ready i = record { bin = i; log = ln_at ready (i + 1); survival = survival_with p (ln_at ready i) }

-- for the bin behind it, from the log of its count
abbrev pub after_of : Float → ErrorParams → List Float → ℕ → Ahead
after_of log p ready i = record { bin = i + 1; log = ln_at ready (i + 1 + 1); survival = survival_with p log }

-- by the survivals from a count and from the next, and its lgamma
unfoldable pub point_from : Params → WindowMasses → Steady → List Float → ℕ → Float → Float → Float → Float
point_from p m s table count high low gamma =
    lse3_of (p.ln_error ⊕ log_probability_between p.error_params s.ln_tail (of_count count) high low ⊖ m.error)
    (p.ln_single ⊕ mix_at_of (density_with s.lobe (of_count count) gamma) count p.shelf s.logs table ⊖ m.single)
    (p.ln_repeat ⊕ density_with s.second (of_count count) gamma ⊖ m.repeat)

abbrev pub point_at : Params → WindowMasses → Steady → List Float → List Float → ℕ → Float
point_at p m s ready table i =
    point_from p m s table (i + 1) (survival_with p.error_params (ln_at ready i))
    (survival_with p.error_params (ln_at ready (i + 1))) (gamma_at ready (i + 1))

abbrev pub point_term_at : Params → WindowMasses → Steady → List Float → List Float → ℕ → ℕ → Float
point_term_at p m s ready table n i = of_count n ⊗ point_at p m s ready table i

unfoldable pub likelihood_at : List ℕ → Float → ℕ → Params → WindowMasses → Steady → List Float → List Float → Float
likelihood_at bins scale end p m s ready table = over_observed bins scale end (point_term_at p m s ready table)
