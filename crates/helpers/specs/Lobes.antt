-- Poisson and negative binomial, as math_helpers.rs has them, operation by operation. Definitions only. Assumes
-- nothing.
use Rattle.std.specs.Prelude.{ℕ, ◌&&◌, cond, Float}
use Rattle.std.specs.Float.{binary64}
use Rattle.std.specs.Float.Ieee.{of_bits, neg, lt, le, to_unsigned}
use Rattle.std.specs.Float.Ieee.Scale.{finite}
use Rattle.routines.specs.Constants.{zero, one}
use Rattle.routines.specs.Lgamma.{lgamma_of}
use Rattle.routines.specs.Ln.{ln_of}
use Rattle.routines.specs.Ops.{◌⊕◌, ◌⊖◌, ◌⊗◌, ◌⊘◌}
use Rattle.routines.specs.Pick.{min_of}
use Rattle.routines.specs.Whole.{floor_of}

-- 1.000000001: the Rust's 1.0 + 1e-9
abbrev pub nearly_poisson : Float
nearly_poisson = of_bits binary64 0x3ff000000044b830

unfoldable pub ln_dpois_of : Float → Float → Float
ln_dpois_of x lambda = x ⊗ ln_of lambda ⊖ lgamma_of (x ⊕ one) ⊖ lambda

-- r = mean / (dispersion - 1)
abbrev pub size_of : Float → Float → Float
size_of mean dispersion = mean ⊘ (dispersion ⊖ one)

-- ln(1 - 1 / dispersion)
abbrev pub log_q_of : Float → Float
log_q_of dispersion = ln_of (one ⊖ one ⊘ dispersion)

unfoldable pub ln_dnbinom_of : Float → Float → Float → Float
ln_dnbinom_of x mean dispersion =
    cond (le dispersion nearly_poisson) (ln_dpois_of x mean)
    (let r = size_of mean dispersion in
    lgamma_of (x ⊕ r) ⊖ lgamma_of (x ⊕ one) ⊖ lgamma_of r ⊕ r ⊗ neg (ln_of dispersion) ⊕ x ⊗ log_q_of dispersion)

-- 18446744073709551616.0: Rust's usize::MAX as f64
abbrev pub two64 : Float
two64 = of_bits binary64 0x43f0000000000000

unfoldable pub discrete_nb_mode_of : Float → Float → ℕ
discrete_nb_mode_of mean dispersion =
    let mode = mean ⊖ (dispersion ⊖ one) in
    cond (finite mode && lt zero mode) (to_unsigned 64 (min_of (floor_of mode) two64)) 0
