-- Where a fit's error component is highest, as models.rs has it. Definitions only. Assumes nothing.
use Rattle.std.specs.Prelude.{ℕ, ◌+◌, Bool, true, false, not, cond, ◌&&◌, ◌||◌, List, [], ◌∷◌, ◌++◌, Float}
use Rattle.std.specs.Float.{inf}
use Rattle.std.specs.Float.Ieee.{lt, eq, ne}
use Rattle.meaning.specs.Numbers as number
use Rattle.meaning.specs.Fold.{fold}
use Rattle.meaning.specs.Reply.{Reply, give, chain, Test, test}
use Rattle.meaning.specs.Rows.{window_tests}
use Rattle.routines.specs.Constants.{one}
use Rattle.routines.specs.Ops.{◌⊘◌, of_count}
use Rattle.models.specs.Errors.{log_probability_of}
use Rattle.models.specs.declared.errors.ErrorParams.{ErrorParams}
use Rattle.models.specs.declared.fit.SpectrumFit.{SpectrumFit}
use Rattle.models.specs.declared.modes.Standing.{Standing}

-- total_cmp on what is not NaN, the later of equals: -0 is below +0, and 1 / -0 below 1 / +0
unfoldable pub later_wins : Float → Float → Bool
later_wins best here = cond (lt best here) true (eq best here && not (lt (one ⊘ here) (one ⊘ best)))

unfoldable pub with_nan : Bool → Float → Bool
with_nan nan here = nan || ne here here

abbrev pub stands : ℕ → Float → Bool → Standing
stands count log nan = record { count = count; log = log; nan = nan }

-- `here` is the log probability of `count`
unfoldable pub higher_with : Float → ℕ → Standing → Standing
higher_with here count best =
    let nan = with_nan best.nan here in
    cond (later_wins best.log here) (stands count here nan) (stands best.count best.log nan)

unfoldable pub higher_of : ErrorParams → ℕ → Standing → Standing
higher_of p count best = higher_with (log_probability_of p (of_count count)) count best

-- over the counts 1 to top
unfoldable pub highest_of : ErrorParams → ℕ → Standing
highest_of p top = fold (higher_of p) 1 (top + 1) (stands 1 (inf true) false)

-- 8: a log probability of the scan is NaN
abbrev pub scanned : Bool → List Test
scanned nan = test nan number.nan_scanned ∷ []

unfoldable pub error_mode_of : SpectrumFit → Reply ℕ
error_mode_of fit =
    let top = fit.fit_window_end in
    let best = highest_of fit.error_params top in
    chain (window_tests top ++ scanned best.nan) (give best.count)
