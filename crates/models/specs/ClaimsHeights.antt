-- What the theorems on the crossover and the error floor speak of. Definitions only. Assumes nothing.
use Rattle.std.specs.Prelude.{ℕ, ◌+◌, ◌≤◌, ◌<◌, max, ◌≡◌, Bool, true, false, ◌⊎◌}
use Rattle.std.specs.Float.Ieee.{le}
use Rattle.models.specs.declared.fit.SpectrumFit.{SpectrumFit}
use Rattle.models.specs.HeightCutoffs.{heights_in, crossover_ceiling, outgrows, errors_in, reference_of}

-- ---- the crossover
abbrev pub above : SpectrumFit → ℕ → Bool
above fit = outgrows (heights_in fit)

abbrev pub crossover_ceiling_of : SpectrumFit → ℕ
crossover_ceiling_of fit = crossover_ceiling fit.mean fit.fit_window_end

-- c is k, or 2 for 1, and k is the first count below the ceiling where the single copies stand above the errors
pub record Crossover (fit : SpectrumFit) (c k : ℕ) : Type 0 where
  pub answer : c ≡ max k 2
  pub first : 1 ≤ k
  pub last : k < crossover_ceiling_of fit
  pub there : above fit k ≡ true
  pub earlier : (j : ℕ) → 1 ≤ j → j < k → above fit j ≡ false

-- ---- the error floor
-- the errors reach the reference height
abbrev pub bad : SpectrumFit → ℕ → Bool
bad fit k = le (reference_of fit) (errors_in fit k)

-- a bad count of the window
abbrev pub BadAt : SpectrumFit → ℕ → Type 0
BadAt fit k = (k ≤ fit.fit_window_end) × (bad fit k ≡ true)

-- from c on no count of the window is bad, and above 2 the one before c is bad, a count of the window. 65,535 is the
-- highest floor: there 65,534 is bad or 65,535 itself.
pub record ErrorFloor (fit : SpectrumFit) (c : ℕ) : Type 0 where
  pub least : 2 ≤ c
  pub most : c ≤ 65535
  pub behind : c < 65535 → (k : ℕ) → c ≤ k → k ≤ fit.fit_window_end → bad fit k ≡ false
  pub before : c < 65535 → 2 < c → (k : ℕ) → k + 1 ≡ c → BadAt fit k
  pub highest : c ≡ 65535 → BadAt fit 65534 ⊎ BadAt fit 65535
