-- A judged run, out of its fit and the verdict on it. Assumes nothing.
use Prim.Native.Nat.{ℕ}
use mathlib.Core.Path.{◌≡◌, refl, sym, ap, ◌∙◌}
use mathlib.Core.Bool.{Bool, true, false, not, true≢false, false≢true}
use mathlib.Core.List.{List}
use lib.Ieee.{Float, le, of_bits}
use Rattle.std.specs.Prelude.{Result, Ok, Err, Option, None, Some}
use Rattle.std.specs.Result.{result_unwrap_or}
use Rattle.meaning.specs.Answers.{reply_of}
use Rattle.meaning.specs.Reply.{Reply}
use Rattle.meaning.specs.declared.refusals.Refusal.{Refusal}
use Rattle.models.specs.Unpacking.{empty_fit, fit_in, unpack_of}
use Rattle.models.specs.declared.fit.SpectrumFit.{SpectrumFit}
use Rattle.fitter.specs.Validation.{Judgement, rejected, verdict_of, judgement_in}
use Rattle.fitter.specs.Validation.{non_finite_likelihood, invalid_components, bad_weight, bad_mean}
use Rattle.fitter.proofs.Verdicts.{there_and_back}
use Rattle.fitter.specs.Judging.{rejection_of_judgement, fit_of_run, judged_fit_of}
use Rattle.fitter.specs.Runs.{list_at}
use Rattle.models.specs.declared.problems.Problem.{Problem}
use Rattle.fitter.specs.declared.runs.Run.{Run}
use Rattle.fitter.specs.declared.rejections.FitRejection.{FitRejection}

pub said-is : (r : Option FitRejection) (j : Judgement) → judgement_in r ≡ j → r ≡ rejection_of_judgement j
said-is None j e = ap rejection_of_judgement e
said-is (Some why) j e = ap Some (sym (there_and_back why)) ∙ ap rejection_of_judgement e

-- the fit of a call that answers as the reply says
pub fit-said : (r : Result SpectrumFit Refusal) → result_unwrap_or r empty_fit ≡ fit_in (reply_of r)
fit-said (Ok f) = refl
fit-said (Err refusal) = refl

module _ (bins : List ℕ) (setup : Problem) (lists : List Float) (room : ℕ) (run : Run) where
  abbrev unpacked : List Float → Reply SpectrumFit
  unpacked list =
      unpack_of bins setup.scale setup.window_end setup.peak setup.error setup.genome list run.cost
      run.iterations room

  pub judged-is : (list : List Float) (answer : Result SpectrumFit Refusal) (fit : SpectrumFit) (r : Option FitRejection)
      → list ≡ list_at lists run.place run.length → reply_of answer ≡ unpacked list
      → fit ≡ result_unwrap_or answer empty_fit
      → judgement_in r ≡ verdict_of fit setup.valley setup.peak setup.mass_limit
      → record { fit = fit; rejection = r } ≡ judged_fit_of bins setup lists room run
  unfolding judged_fit_of fit_of_run
  judged-is list answer fit r el ef eu ev =
      let f : fit ≡ fit_of_run bins setup lists room run =
      eu ∙ fit-said answer ∙ ap fit_in (ef ∙ ap unpacked el) in
      let s : r
      ≡ rejection_of_judgement
      (verdict_of (fit_of_run bins setup lists room run) setup.valley setup.peak setup.mass_limit) =
      said-is r _ (ev ∙ ap (λ (x : SpectrumFit). verdict_of x setup.valley setup.peak setup.mass_limit) f) in
      λ i. record { fit = f i; rejection = s i }

pub from-not : {b : Bool} → not b ≡ true → b ≡ false
from-not {b = true} e = absurd (false≢true e)
from-not {b = false} e = refl

pub from-not-not : {b : Bool} → not b ≡ false → b ≡ true
from-not-not {b = true} e = refl
from-not-not {b = false} e = absurd (true≢false e)

-- the empty fit, which would stand for one that `unpack` refused, is turned away: its mean is 0
pub empty-rejected : (valley peak : ℕ) (limit : Float) → verdict_of empty_fit valley peak limit ≡ rejected 2
unfolding verdict_of non_finite_likelihood invalid_components bad_weight bad_mean empty_fit le of_bits
empty-rejected valley peak limit = refl
