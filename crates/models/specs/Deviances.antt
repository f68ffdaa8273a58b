-- How far the spectrum lies from a fit, as models.rs has it, operation by operation. Definitions only. Assumes nothing.
use Rattle.std.specs.Prelude.{ℕ, ◌+◌, false, cond, List, Float}
use Rattle.std.specs.Float.{inf}
use Rattle.std.specs.Float.Ieee.{neg, lt}
use Rattle.routines.specs.Constants.{zero}
use Rattle.routines.specs.Ln.{ln_of}
use Rattle.routines.specs.Ops.{◌⊕◌, ◌⊗◌, ◌⊘◌, of_count}
use Rattle.routines.specs.Starts.{dec}
use Rattle.models.specs.Heights.{heights_at}
use Rattle.models.specs.Spectra.{over_observed}
use Rattle.models.specs.declared.fit.SpectrumFit.{SpectrumFit}
use Rattle.models.specs.declared.height_terms.Heights.{Heights}

-- the three heights, added up from the -0 of Rust's sum, over the scale in use
unfoldable pub expected_of : Heights → Float → Float
expected_of h scale = (neg zero ⊕ h.error ⊕ h.single ⊕ h.repeat) ⊘ scale

abbrev pub expected_at : SpectrumFit → Float → Float → Float
expected_at fit count scale = expected_of (heights_at fit count) scale

abbrev pub two : Float
two = dec 2 1

unfoldable pub deviance_term : Float → Float → Float
deviance_term observed expected = cond (lt zero expected) (two ⊗ observed ⊗ ln_of (observed ⊘ expected)) (inf false)

abbrev pub deviance_at : SpectrumFit → Float → ℕ → ℕ → Float
deviance_at fit scale n i = deviance_term (of_count n) (expected_at fit (of_count (i + 1)) scale)

unfoldable pub deviance_of : List ℕ → Float → ℕ → SpectrumFit → Float
deviance_of bins scale end fit = over_observed bins scale end (deviance_at fit scale)
