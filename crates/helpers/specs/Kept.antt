-- For speed alone: what a lobe's step to the next term and its density have in common, kept from the masses' loop in a
-- slice: of count n at 2 n for one lobe and behind it for the other, as far as the slice goes.
-- Nothing here has to be held beside the Rust: proofs/Growths.antt shows the density over such a slice equal to
-- Hoists.antt's. Definitions only. Assumes nothing.
use Rattle.std.specs.Prelude.{ℕ, ◌+◌, ◌*◌, ◌≤◌, ◌<◌, ◌≡◌, cond, List, get_or, set, Float}
use Rattle.meaning.specs.Fold.{fold}
use Rattle.routines.specs.Hoists.{lgamma_with}
use Rattle.routines.specs.Ln.{ln_of}
use Rattle.routines.specs.Ops.{◌⊕◌, ◌⊖◌, ◌⊗◌, of_count}
use Rattle.helpers.specs.declared.hoists.Lobe.{Lobe}

-- ln(count + r); a Poisson's rate
unfoldable pub growth_of : Lobe → Float → Float
growth_of l count = cond l.poisson l.rate (ln_of (count ⊕ l.size))

-- with lgamma(x + 1) and the growth at hand: `density_with l x gamma` is `density_from l x gamma (growth_of l x)`
unfoldable pub density_from : Lobe → Float → Float → Float → Float
density_from l x gamma growth =
    cond l.poisson (x ⊗ l.rate ⊖ gamma ⊖ l.mean)
    (lgamma_with (x ⊕ l.size) growth ⊖ gamma ⊖ l.gamma ⊕ l.start ⊕ x ⊗ l.slope)

-- the growth at place i, and worked out behind the slice's end
unfoldable pub growth_at : Lobe → Float → List Float → ℕ → Float
growth_at l x kept i = get_or kept i (growth_of l x)

abbrev pub density_at : Lobe → Float → Float → List Float → ℕ → Float
density_at l x gamma kept i = density_from l x gamma (growth_at l x kept i)

-- ---- what the masses' loop leaves in the slice
abbrev pub keep_step : Lobe → Lobe → ℕ → List Float → List Float
keep_step l k n kept = set (set kept (2 * n) (growth_of l (of_count n))) (2 * n + 1) (growth_of k (of_count n))

-- of the counts 1 to top; the rest as found
unfoldable pub kept_after : Lobe → Lobe → ℕ → List Float → List Float
kept_after l k top held = fold (keep_step l k) 1 (top + 1) held

-- the slice holds a lobe's growths, in the j-th of two places for each count from 1 on and below `end`
pub record Keeps (l : Lobe) (j : ℕ) (kept : List Float) (end : ℕ) : Type 0 where
  pub stands : (n : ℕ) → 1 ≤ n → n < end → growth_at l (of_count n) kept (2 * n + j) ≡ growth_of l (of_count n)

-- those of two lobes
pub record Kept (l k : Lobe) (kept : List Float) (end : ℕ) : Type 0 where
  pub first : Keeps l 0 kept end
  pub second : Keeps k 1 kept end
