-- What a fit's readers take from it, as models.rs has it. Definitions only. Assumes nothing.
use Rattle.std.specs.Prelude.{ℕ, cond, get_or, Float}
use Rattle.std.specs.Float.{nan}
use Rattle.std.specs.Float.Ieee.{lt, eq, neg}
use Rattle.routines.specs.Constants.{zero, one}
use Rattle.routines.specs.Exp.{exp_of}
use Rattle.routines.specs.Ln.{ln_of}
use Rattle.routines.specs.Ops.{◌⊖◌, ◌⊗◌}
use Rattle.helpers.specs.Lobes.{discrete_nb_mode_of}
use Rattle.helpers.specs.LogSums.{lse3_of}
use Rattle.models.specs.declared.fit.SpectrumFit.{SpectrumFit}

-- |x|: +0 for either zero, and a NaN as it is
unfoldable pub abs_of : Float → Float
abs_of x = cond (lt x zero) (neg x) (cond (eq x zero) zero x)

abbrev pub roundtrip_of : Float → Float → Float → Float
roundtrip_of mean dispersion mode = abs_of (mean ⊖ (dispersion ⊖ one) ⊖ mode)

unfoldable pub total_ratio_of : SpectrumFit → Float
total_ratio_of fit =
    let totals = fit.component_log_totals in
    exp_of (lse3_of (get_or totals 0 nan) (get_or totals 1 nan) (get_or totals 2 nan) ⊖ ln_of fit.full_distinct_total)

abbrev pub roundtrip_error_of : SpectrumFit → Float
roundtrip_error_of fit = roundtrip_of fit.mean fit.dispersion fit.target_mode

abbrev pub primary_mode_of : SpectrumFit → ℕ
primary_mode_of fit = discrete_nb_mode_of fit.mean fit.dispersion

abbrev pub repeat_mode_of : SpectrumFit → ℕ
repeat_mode_of fit = discrete_nb_mode_of (fit.repeat_ratio ⊗ fit.mean) fit.dispersion
