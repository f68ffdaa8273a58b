-- What the theorem on the selection speaks of: which attempt is taken, and what that says of the others.
-- Definitions only. Assumes nothing.
use Rattle.std.specs.Prelude.{◌≡◌, true, false}
use mathlib.Core.List.{List, ◌∷◌, ◌++◌, Memᴰ}
use Rattle.fitter.specs.Attempts.{valid_of, candidate_in}
use Rattle.fitter.specs.Selection.{replaces_of, nothing, chosen, wins_of, select_of}
use Rattle.fitter.specs.declared.attempts.FitAttempt.{FitAttempt}
use Rattle.models.specs.declared.fit.SpectrumFit.{SpectrumFit}
use Rattle.std.specs.Prelude.{Option}

-- a is taken. Of those after it none is better by more than the tolerance. Of those before it only their selection is
-- compared with a. Each that was refused there failed against the best of its time, so refused ones may be better than
-- that best, each within the tolerance.
pub record Taken (attempts : List FitAttempt) (a : FitAttempt) : Type 0 where
  pub before : List FitAttempt
  pub after : List FitAttempt
  pub order : attempts ≡ before ++ a ∷ after
  pub valid : valid_of a ≡ true
  pub beats : wins_of (select_of before) a ≡ true
  pub stays : (b : FitAttempt) → Memᴰ b after → valid_of b ≡ true
      → replaces_of (candidate_in a).bic (candidate_in b).bic ≡ false

pub data Outcome (attempts : List FitAttempt) (selected : Option SpectrumFit) : Type 0 where
  none : selected ≡ nothing → ((b : FitAttempt) → Memᴰ b attempts → valid_of b ≡ false) → Outcome attempts selected
  one : (a : FitAttempt) → selected ≡ chosen (candidate_in a) → Taken attempts a → Outcome attempts selected
