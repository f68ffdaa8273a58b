-- How C has a verdict, an attempt and the fit that is selected. Definitions only. Assumes nothing.
use Rattle.std.specs.Prelude.{ℕ, not, cond, eqb, Option, None, Some, is_some, unwrap_or}
use Rattle.meaning.specs.Flags.{byte_of}
use Rattle.meaning.specs.Numbers as number
use Rattle.meaning.specs.Reply.{Reply, refuse, broken, give}
use Rattle.fitter.specs.Attempts.{attempt_of, held_as}
use Rattle.fitter.specs.Validation.{Judgement, valid, rejected, reason_at}
use Rattle.fitter.specs.declared.attempts.FitAttempt.{FitAttempt}
use Rattle.fitter.specs.declared.rejections.FitRejection.{FitRejection}
use Rattle.models.specs.Parts.{error_of, genome_of}
use Rattle.models.specs.Unpacking.{empty_fit}
use Rattle.models.specs.declared.fit.SpectrumFit.{SpectrumFit}
use Rattle.exports.specs.FlatFits.{fit_of, of_fit}
use Rattle.exports.specs.declared.flat_attempts.FlatAttempt.{FlatAttempt}
use Rattle.exports.specs.declared.flat_attempts.FlatSelected.{FlatSelected}
use Rattle.exports.specs.declared.fits.FlatFit.{FlatFit}
use Rattle.exports.specs.declared.verdicts.FlatVerdict.{FlatVerdict}

-- ---- a verdict: the number, 0 for an answer; the reason's number, 0 for a valid fit and for a refusal
abbrev pub reason_in : Judgement → ℕ
reason_in valid = 0
reason_in (rejected n) = n

abbrev pub say_verdict : Reply Judgement → FlatVerdict
say_verdict (refuse n) = record { number = n; reason = 0 }
say_verdict (broken place) = record { number = number.broken_file; reason = 0 }
say_verdict (give j) = record { number = 0; reason = reason_in j }

-- ---- an attempt: a reason by its number, and no run converged for any number that no rule has
-- present 0: none; any other number: this one
abbrev pub rejection_of : ℕ → ℕ → Option FitRejection
rejection_of present n = cond (eqb present 0) None (Some (reason_at n))

unfoldable pub attempt_of_flat : FlatAttempt → FitAttempt
attempt_of_flat a =
    attempt_of
    (error_of a.error_model)
    (genome_of a.genome_model)
    (held_as (not (eqb a.has_candidate 0)) (fit_of a.candidate))
    (rejection_of a.rejection_present a.rejection)
    a.total_iterations
    a.capped_starts

-- ---- the fit that is selected: 1 and the fit, or 0 and the empty one
unfoldable pub of_selected : Option SpectrumFit → FlatSelected
of_selected s = record { found = byte_of (is_some s); fit = of_fit (unwrap_or s empty_fit) }
