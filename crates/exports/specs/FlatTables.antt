-- How C has an attempt over a run table: the numbers that go in, and what comes back. Beside a number every field is 0.
-- Definitions only. Assumes nothing.
use Rattle.std.specs.Prelude.{ℕ, Float, Option, None, Some, is_some}
use Rattle.meaning.specs.Flags.{byte_of}
use Rattle.meaning.specs.Onward.{number_said}
use Rattle.meaning.specs.Reply.{Reply, refuse, broken, give}
use Rattle.fitter.specs.Attempts.{attempt_of, candidate_in}
use Rattle.fitter.specs.Validation.{reason_number}
use Rattle.fitter.specs.declared.attempts.FitAttempt.{FitAttempt}
use Rattle.fitter.specs.declared.rejections.FitRejection.{FitRejection}
use Rattle.models.specs.Parts.{error_number, genome_number, error_of, genome_of}
use Rattle.models.specs.declared.families.ErrorModel.TheVariants.{FreeSingletonWeibull}
use Rattle.models.specs.declared.families.GenomeModel.TheVariants.{NegativeBinomial}
use Rattle.models.specs.declared.problems.Problem.{Problem}
use Rattle.exports.specs.FlatFits.{of_fit}
use Rattle.exports.specs.declared.flat_attempts.FlatAttempt.{FlatAttempt}
use Rattle.exports.specs.declared.run_tables.FlatAttemptAnswer.{FlatAttemptAnswer}

abbrev pub setup_of : Float → ℕ → ℕ → ℕ → ℕ → ℕ → Float → Problem
setup_of scale end valley peak error genome limit = record {
  scale = scale;
  window_end = end;
  valley = valley;
  peak = peak;
  error = error_of error;
  genome = genome_of genome;
  mass_limit = limit;
}

-- 0 where there is none
abbrev pub rejection_number : Option FitRejection → ℕ
rejection_number None = 0
rejection_number (Some why) = reason_number why

unfoldable pub of_attempt : FitAttempt → FlatAttempt
of_attempt a = record {
  error_model = error_number a.error_model;
  genome_model = genome_number a.genome_model;
  has_candidate = byte_of (is_some a.candidate);
  candidate = of_fit (candidate_in a);
  rejection_present = byte_of (is_some a.rejection);
  rejection = rejection_number a.rejection;
  total_iterations = a.total_iterations;
  capped_starts = a.capped_starts;
}

-- the attempt beside a number
abbrev pub empty_attempt : FitAttempt
empty_attempt = attempt_of FreeSingletonWeibull NegativeBinomial None None 0 0

abbrev pub attempt_in : Reply FitAttempt → FitAttempt
attempt_in (refuse n) = empty_attempt
attempt_in (broken place) = empty_attempt
attempt_in (give a) = a

-- the number, 0 for an answer; the attempt, the empty one for a refusal
unfoldable pub say_attempt : Reply FitAttempt → FlatAttemptAnswer
say_attempt r = record { number = number_said r; attempt = of_attempt (attempt_in r) }
