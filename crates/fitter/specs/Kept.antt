-- What the theorem on the attempts speaks of: the run that is kept, and what that says of the others. Definitions only.
-- Assumes nothing.
use Rattle.std.specs.Prelude.{ℕ, ◌<◌, ◌≡◌, Bool, true, false}
use Rattle.std.specs.Float.Ieee.{lt}
use Rattle.fitter.specs.Surveys.{no_best}
use Rattle.fitter.specs.declared.runs.Run.{Run}
use Rattle.fitter.specs.declared.surveys.Best.{Best}

-- among the first n runs that have the property p: none costs less, and each earlier one costs more
pub record Lowest (at : ℕ → Run) (p : Run → Bool) (n : ℕ) (best : Best) : Type 0 where
  pub below : best.position < n
  pub there : best.run ≡ at best.position
  pub holds : p best.run ≡ true
  pub least : (j : ℕ) → j < n → p (at j) ≡ true → lt (at j).cost best.run.cost ≡ false
  pub first : (j : ℕ) → j < best.position → p (at j) ≡ true → lt best.run.cost (at j).cost ≡ true

pub data Found (at : ℕ → Run) (p : Run → Bool) (n : ℕ) (best : Best) : Type 0 where
  none : best ≡ no_best → ((j : ℕ) → j < n → p (at j) ≡ false) → Found at p n best
  one : Lowest at p n best → Found at p n best

-- the valid run of lowest cost, the earlier on ties; with none valid the converged one of lowest cost; or none
pub data KeptRun (at : ℕ → Run) (valid : Run → Bool) (n : ℕ) (best : Best) : Type 0 where
  is_valid : Lowest at valid n best → KeptRun at valid n best
  is_rejected : ((j : ℕ) → j < n → valid (at j) ≡ false) → Lowest at (λ (run : Run). run.converged) n best
      → KeptRun at valid n best
  is_missing : ((j : ℕ) → j < n → (at j).converged ≡ false) → best ≡ no_best → KeptRun at valid n best
