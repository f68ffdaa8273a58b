-- What one configuration came to, as spectrum_fitter.rs has it. Definitions only. Assumes nothing.
use Rattle.std.specs.Prelude.{is_some, unwrap_or, ℕ, Bool, true, false, cond, ◌&&◌, Option, None, Some}
use Rattle.models.specs.declared.families.ErrorModel.{ErrorModel}
use Rattle.models.specs.declared.families.GenomeModel.{GenomeModel}
use Rattle.models.specs.Unpacking.{empty_fit}
use Rattle.models.specs.declared.fit.SpectrumFit.{SpectrumFit}
use Rattle.fitter.specs.declared.attempts.FitAttempt.{FitAttempt}
use Rattle.fitter.specs.declared.rejections.FitRejection.{FitRejection}

abbrev pub attempt_of : ErrorModel → GenomeModel → Option SpectrumFit → Option FitRejection → ℕ → ℕ → FitAttempt
attempt_of error genome candidate rejection iterations capped =
    record {
      error_model = error;
      genome_model = genome;
      candidate = candidate;
      rejection = rejection;
      total_iterations = iterations;
      capped_starts = capped;
    }

-- a fit beside a flag: whatever stands beside false is passed over
abbrev pub held_as : Bool → SpectrumFit → Option SpectrumFit
held_as held fit = cond held (Some fit) None

abbrev pub unrejected : Option FitRejection → Bool
unrejected None = true
unrejected (Some reason) = false

-- there is a candidate, and it was not rejected
unfoldable pub valid_of : FitAttempt → Bool
valid_of attempt = unrejected attempt.rejection && is_some attempt.candidate

-- the candidate, and the empty fit where there is none
abbrev pub candidate_in : FitAttempt → SpectrumFit
candidate_in attempt = unwrap_or attempt.candidate empty_fit
