-- The fit that is used, as spectrum_fitter.rs has it: one step for each attempt, in order. Definitions only. Assumes
-- nothing.
use Rattle.std.specs.Prelude.{Bool, true, cond, ◌&&◌, Float, Option, None, Some}
use mathlib.Core.List.{List, foldl}
use Rattle.std.specs.Float.Ieee.{lt}
use Rattle.routines.specs.Constants.{one}
use Rattle.routines.specs.Ops.{◌⊕◌, ◌⊖◌, ◌⊗◌}
use Rattle.routines.specs.Pick.{max_of}
use Rattle.routines.specs.Starts.{dec}
use Rattle.models.specs.Fits.{abs_of}
use Rattle.models.specs.declared.fit.SpectrumFit.{SpectrumFit}
use Rattle.fitter.specs.Attempts.{valid_of, candidate_in}
use Rattle.fitter.specs.declared.attempts.FitAttempt.{FitAttempt}

-- 1e-9
abbrev pub tolerance : Float
tolerance = dec 1 1000000000

-- next < best - 1e-9 * (1.0 + best.abs().max(next.abs()))
unfoldable pub replaces_of : Float → Float → Bool
replaces_of best next = lt next (best ⊖ tolerance ⊗ (one ⊕ max_of (abs_of best) (abs_of next)))

abbrev pub nothing : Option SpectrumFit
nothing = None

abbrev pub chosen : SpectrumFit → Option SpectrumFit
chosen fit = Some fit

-- nothing is, and a fit by one whose BIC replaces its own
abbrev pub is_beaten : Option SpectrumFit → Float → Bool
is_beaten None bic = true
is_beaten (Some fit) bic = replaces_of fit.bic bic

-- a valid attempt wins over none, and over the best so far by its BIC
unfoldable pub wins_of : Option SpectrumFit → FitAttempt → Bool
wins_of best next = valid_of next && is_beaten best (candidate_in next).bic

unfoldable pub replace_of : Option SpectrumFit → FitAttempt → Option SpectrumFit
replace_of best next = cond (wins_of best next) (chosen (candidate_in next)) best

unfoldable pub select_of : List FitAttempt → Option SpectrumFit
select_of attempts = foldl replace_of nothing attempts
