-- Our validator, as document 01 has it under "Attempts and selection": ten rules by its numbers, each a definition of its
-- own, and the first that applies. A fit's three of a kind are the errors', the single copies' and the repeats'.
-- Definitions only. Assumes nothing.
use Rattle.std.specs.Prelude.{ℕ, zero, suc, ◌≡◌, Bool, true, false, not, ◌&&◌, ◌||◌, List, [], ◌∷◌, eqb, ltb, get_or}
use Rattle.std.specs.Prelude.{Float}
use Rattle.std.specs.Float.{nan}
use Rattle.std.specs.Float.Ieee.{lt, le, ne}
use Rattle.std.specs.Float.Ieee.Scale.{finite}
use Rattle.meaning.specs.Numbers as number
use Rattle.meaning.specs.Reply.{Reply, refuse, broken, give, Test, test, chain, first_of}
use Rattle.meaning.specs.Rows.{in_order, below_two, above_most, no_window}
use Rattle.routines.specs.Constants as float
use Rattle.routines.specs.Constants.{half, one}
use Rattle.routines.specs.Ln.{ln_of}
use Rattle.routines.specs.Ops.{◌⊕◌, ◌⊖◌, ◌⊗◌, of_count}
use Rattle.helpers.specs.LogSums.{lse3_of}
use Rattle.models.specs.Fits.{roundtrip_error_of, primary_mode_of, repeat_mode_of}
use Rattle.models.specs.Masses.{mass_tolerance}
use Rattle.models.specs.Modes.{error_mode_of}
use Rattle.models.specs.Params.{mu_low, mu_span}
use Rattle.models.specs.Usable.{shelf_usable}
use Rattle.models.specs.declared.fit.SpectrumFit.{SpectrumFit}
use Rattle.fitter.specs.declared.rejections.FitRejection.{FitRejection}
use Rattle.fitter.specs.declared.rejections.FitRejection.TheVariants as reason
use Rattle.std.specs.Prelude.{Option, None, Some}
use Rattle.helpers.specs.declared.shelves.Shelf.{Shelf}

-- ---- 1: log-likelihood, BIC or deviance not finite
unfoldable pub non_finite_likelihood : SpectrumFit → Bool
non_finite_likelihood fit =
    not (finite fit.log_likelihood) || not (finite fit.bic) || not (finite fit.deviance)

-- ---- 2: a weight outside 0 to 1 (both allowed) or NaN, mean not finite or ≤ 0, dispersion not finite or below 1, or
-- invalid shelf
unfoldable pub bad_weight : Float → Bool
bad_weight weight = not (le float.zero weight && le weight one)

unfoldable pub bad_mean : Float → Bool
bad_mean mean = not (finite mean) || le mean float.zero

unfoldable pub bad_dispersion : Float → Bool
bad_dispersion dispersion = not (finite dispersion) || lt dispersion one

-- a fit without a shelf has no invalid one
abbrev pub bad_shelf : Option Shelf → Bool
bad_shelf shelf = not (shelf_usable shelf)

unfoldable pub invalid_components : SpectrumFit → Bool
invalid_components fit =
    bad_weight fit.w_error
    || bad_weight fit.w_single
    || bad_weight fit.w_repeat
    || bad_mean fit.mean
    || bad_dispersion fit.dispersion
    || bad_shelf fit.shelf

-- ---- 3: a log mass not finite or above 1e-12
unfoldable pub bad_mass : Float → Bool
bad_mass mass = not (finite mass) || lt mass_tolerance mass

unfoldable pub invalid_window_mass : SpectrumFit → Bool
invalid_window_mass fit =
    let masses = fit.component_log_window_masses in
    bad_mass (get_or masses 0 nan) || bad_mass (get_or masses 1 nan) || bad_mass (get_or masses 2 nan)

-- ---- 4: log sum of the totals minus ln of the full total is above ln of the caller's mass limit, or NaN
unfoldable pub excess_of : SpectrumFit → Float
excess_of fit =
    let totals = fit.component_log_totals in
    lse3_of (get_or totals 0 nan) (get_or totals 1 nan) (get_or totals 2 nan) ⊖ ln_of fit.full_distinct_total

unfoldable pub above_or_nan : Float → Float → Bool
above_or_nan x bound = lt bound x || ne x x

unfoldable pub component_mass_exceeded : SpectrumFit → Float → Bool
component_mass_exceeded fit limit = above_or_nan (excess_of fit) (ln_of limit)

-- ---- 5: round trip off by more than 0.5, or NaN
unfoldable pub unstable_mode : SpectrumFit → Bool
unstable_mode fit = above_or_nan (roundtrip_error_of fit) half

-- ---- 6: primary mode 0 or above the window end
unfoldable pub outside_window : ℕ → ℕ → Bool
outside_window mode end = eqb mode 0 || ltb end mode

unfoldable pub lobe_outside_window : SpectrumFit → Bool
lobe_outside_window fit = outside_window (primary_mode_of fit) fit.fit_window_end

-- ---- 7: error mode above the valley, or a NaN in its scan
abbrev pub past_valley : ℕ → ℕ → Bool
past_valley mode valley = ltb valley mode

-- a mode that comes back as a number: 8 is the NaN, and 2 and 5 come before every rule
abbrev pub mode_past : Reply ℕ → ℕ → Bool
mode_past (give mode) valley = past_valley mode valley
mode_past (refuse n) valley = true
mode_past (broken place) valley = true

unfoldable pub error_mode_past_valley : SpectrumFit → ℕ → Bool
error_mode_past_valley fit valley = mode_past (error_mode_of fit) valley

-- ---- 8: mode+1 < 0.75·peak, or mode > (0.75+0.58)·peak
unfoldable pub outside_band : Float → Float → Bool
outside_band mode peak = lt (mode ⊕ one) (mu_low ⊗ peak) || lt ((mu_low ⊕ mu_span) ⊗ peak) mode

unfoldable pub primary_mode_outside_band : SpectrumFit → ℕ → Bool
primary_mode_outside_band fit peak = outside_band (of_count (primary_mode_of fit)) (of_count peak)

-- ---- 9: repeat mode not above the primary one
unfoldable pub repeat_mode_too_early : SpectrumFit → Bool
repeat_mode_too_early fit = not (ltb (primary_mode_of fit) (repeat_mode_of fit))

-- ---- 10: log-likelihood above 0
unfoldable pub positive_log_likelihood : SpectrumFit → Bool
positive_log_likelihood fit = lt float.zero fit.log_likelihood

-- ---- the first that applies
abbrev pub rules : SpectrumFit → ℕ → ℕ → Float → List Test
rules fit valley peak limit =
    test (non_finite_likelihood fit) 1
    ∷ test (invalid_components fit) 2
    ∷ test (invalid_window_mass fit) 3
    ∷ test (component_mass_exceeded fit limit) 4
    ∷ test (unstable_mode fit) 5
    ∷ test (lobe_outside_window fit) 6
    ∷ test (error_mode_past_valley fit valley) 7
    ∷ test (primary_mode_outside_band fit peak) 8
    ∷ test (repeat_mode_too_early fit) 9
    ∷ test (positive_log_likelihood fit) 10
    ∷ []

-- `rejected` has the number of the reason
pub data Judgement : Type 0 where
  valid : Judgement
  rejected : ℕ → Judgement

abbrev pub judgement_at : ℕ → Judgement
judgement_at zero = valid
judgement_at (suc n) = rejected (suc n)

unfoldable pub verdict_of : SpectrumFit → ℕ → ℕ → Float → Judgement
verdict_of fit valley peak limit = judgement_at (first_of (rules fit valley peak limit))

-- ---- the numbers that come back instead
-- 9: the mass limit is not finite or is below 1
unfoldable pub bad_limit : Float → Bool
bad_limit limit = not (finite limit) || lt limit one

abbrev pub outside_limit : Float → List Test
outside_limit limit = test (bad_limit limit) number.wrong_limit_or_cost ∷ []

unfoldable pub validate_tests : ℕ → ℕ → ℕ → Float → List Test
validate_tests end valley peak limit =
    in_order
    (below_two (valley ∷ peak ∷ [])
    ∷ above_most (valley ∷ peak ∷ end ∷ [])
    ∷ no_window end
    ∷ outside_limit limit
    ∷ [])

unfoldable pub validate_of : SpectrumFit → ℕ → ℕ → Float → Reply Judgement
validate_of fit valley peak limit =
    chain (validate_tests fit.fit_window_end valley peak limit) (give (verdict_of fit valley peak limit))

-- ---- what a verdict says
-- the paper's numbers, and 0 where there is no fit to judge
abbrev pub reason_number : FitRejection → ℕ
reason_number reason.OptimisationFailed = 0
reason_number reason.NonFiniteLikelihood = 1
reason_number reason.InvalidComponents = 2
reason_number reason.InvalidWindowMass = 3
reason_number reason.ComponentMassExceeded = 4
reason_number reason.UnstableModeParameterisation = 5
reason_number reason.GenomeLobeOutsideFitWindow = 6
reason_number reason.ErrorModePastValley = 7
reason_number reason.PrimaryModeOutsideBand = 8
reason_number reason.RepeatModeTooEarly = 9
reason_number reason.PositiveLogLikelihood = 10

-- the reason of a number: 0 is the first
abbrev pub reason_from : List FitRejection → ℕ → FitRejection
reason_from [] n = reason.OptimisationFailed
reason_from (why ∷ whys) zero = why
reason_from (why ∷ whys) (suc n) = reason_from whys n

abbrev pub reason_at : ℕ → FitRejection
reason_at n =
    reason_from
    (reason.OptimisationFailed
    ∷ reason.NonFiniteLikelihood
    ∷ reason.InvalidComponents
    ∷ reason.InvalidWindowMass
    ∷ reason.ComponentMassExceeded
    ∷ reason.UnstableModeParameterisation
    ∷ reason.GenomeLobeOutsideFitWindow
    ∷ reason.ErrorModePastValley
    ∷ reason.PrimaryModeOutsideBand
    ∷ reason.RepeatModeTooEarly
    ∷ reason.PositiveLogLikelihood
    ∷ [])
    n

abbrev pub judgement_in : Option FitRejection → Judgement
judgement_in None = valid
judgement_in (Some why) = rejected (reason_number why)

-- ---- a valid fit: what the theorem of proofs/Verdicts.antt speaks of
pub record NoRule (fit : SpectrumFit) (valley peak : ℕ) (limit : Float) : Type 0 where
  pub rule1 : non_finite_likelihood fit ≡ false
  pub rule2 : invalid_components fit ≡ false
  pub rule3 : invalid_window_mass fit ≡ false
  pub rule4 : component_mass_exceeded fit limit ≡ false
  pub rule5 : unstable_mode fit ≡ false
  pub rule6 : lobe_outside_window fit ≡ false
  pub rule7 : error_mode_past_valley fit valley ≡ false
  pub rule8 : primary_mode_outside_band fit peak ≡ false
  pub rule9 : repeat_mode_too_early fit ≡ false
  pub rule10 : positive_log_likelihood fit ≡ false
