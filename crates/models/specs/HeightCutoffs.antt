-- The crossover and the error floor of a fit, as models.rs has them. Definitions only. Assumes nothing.
use Rattle.std.specs.Prelude.{ℕ, zero, suc, ◌+◌, ◌-◌, min, max, Bool, not, ◌||◌, cond, ltb, Float}
use Rattle.std.specs.Float.Ieee.{lt, le, to_unsigned}
use Rattle.std.specs.Float.Ieee.Scale.{finite}
use Rattle.meaning.specs.Fold.{fold}
use Rattle.meaning.specs.Reply.{Reply, give, chain}
use Rattle.meaning.specs.Rows.{window_tests}
use Rattle.routines.specs.Constants.{two}
use Rattle.routines.specs.Ops.{of_count}
use Rattle.routines.specs.Pick.{max_of}
use Rattle.routines.specs.Whole.{round_of}
use Rattle.models.specs.Fits.{primary_mode_of}
use Rattle.models.specs.Heights.{heights_at}
use Rattle.models.specs.declared.fit.SpectrumFit.{SpectrumFit}
use Rattle.models.specs.declared.height_terms.Heights.{Heights}
use Rattle.std.specs.Prelude.{Option, None, Some}

abbrev pub heights_in : SpectrumFit → ℕ → Heights
heights_in fit k = heights_at fit (of_count k)

-- ---- the crossover
unfoldable pub crossover_starts : SpectrumFit → Bool
crossover_starts fit = not (not (finite fit.mean) || lt fit.mean two || ltb fit.fit_window_end 2)

abbrev pub crossover_ceiling : Float → ℕ → ℕ
crossover_ceiling mean end = min (to_unsigned 64 (max_of (round_of mean) two)) end

abbrev pub outgrows : (ℕ → Heights) → ℕ → Bool
outgrows heights c = lt (heights c).error (heights c).single

-- `left` counts are left, from c on
unfoldable pub crossing_from : (ℕ → Heights) → ℕ → ℕ → Option ℕ
crossing_from heights zero c = None
crossing_from heights (suc left) c =
    let rest = crossing_from heights left (suc c) in
    cond (outgrows heights c) (Some (max c 2)) rest

-- c goes from 1 to ceiling - 1. The Rust cuts its answer off at 65,535; no ceiling is higher.
unfoldable pub crossing_of : (ℕ → Heights) → ℕ → Option ℕ
crossing_of heights ceiling = crossing_from heights (ceiling - 1) 1

unfoldable pub crossover_of : SpectrumFit → Reply (Option ℕ)
crossover_of fit =
    let end = fit.fit_window_end in
    chain (window_tests end)
    (give (cond (crossover_starts fit) (crossing_of (heights_in fit) (crossover_ceiling fit.mean end)) None))

-- ---- the error floor
abbrev pub errors_in : SpectrumFit → ℕ → Float
errors_in fit k = (heights_in fit k).error

-- the single copies' height at their mode
unfoldable pub reference_of : SpectrumFit → Float
reference_of fit = (heights_in fit (primary_mode_of fit)).single

unfoldable pub later_bad : Float → Float → ℕ → ℕ → ℕ
later_bad reference error count last = cond (le reference error) count last

-- over the counts 1 to top; 0 where none is bad
unfoldable pub last_bad_of : (ℕ → Float) → Float → ℕ → ℕ
last_bad_of errors reference top = fold (λ (k : ℕ). later_bad reference (errors k) k) 1 (top + 1) 0

abbrev pub floor_behind_of : ℕ → ℕ
floor_behind_of last = max (min (last + 1) 65535) 2

unfoldable pub error_floor_of : SpectrumFit → Reply ℕ
error_floor_of fit =
    let end = fit.fit_window_end in
    chain (window_tests end) (give (floor_behind_of (last_bad_of (errors_in fit) (reference_of fit) end)))
