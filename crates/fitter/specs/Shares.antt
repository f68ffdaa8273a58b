-- The shelf share that a search starts from, as spectrum_fitter.rs has it, operation by operation. A sum runs from the
-- left, from the -0 of Rust's sum. Definitions only. Assumes nothing.
use Rattle.std.specs.Prelude.{ℕ, ◌-◌, ◌*◌, ◌/◌, min, cond, List, [], ◌∷◌, length, get_or, Float}
use Rattle.std.specs.Float.Ieee.{neg, lt, le}
use Rattle.meaning.specs.Fold.{fold}
use Rattle.meaning.specs.Reply.{Reply, give, chain}
use Rattle.meaning.specs.Rows.{in_order, below_two, above_most}
use Rattle.routines.specs.Constants.{zero, two}
use Rattle.routines.specs.Ops.{◌⊕◌, ◌⊗◌, ◌⊘◌, of_count}
use Rattle.routines.specs.Starts.{dec}
use Rattle.models.specs.Recovery.{used_scale_of}
use Rattle.fitter.specs.Recovering.{recovered}

abbrev pub mass_step : List ℕ → ℕ → Float → Float
mass_step sample i total = total ⊕ of_count (get_or sample i 0)

-- the k-mers at counts `from` to `to`, both taken in: bin i holds count i + 1, and past the bins there are none
unfoldable pub mass_of : List ℕ → ℕ → ℕ → Float
mass_of sample from to = fold (mass_step sample) (from - 1) (min to (length sample)) (neg zero)

-- Rust's x.clamp(low, high), where low is at most high
unfoldable pub clamp_of : Float → Float → Float → Float
clamp_of x low high = cond (lt x low) low (cond (lt high x) high x)

-- `sample` is the recovered bins
unfoldable pub share_of : List ℕ → ℕ → ℕ → Float
share_of sample valley peak =
    let lobe = mass_of sample valley (2 * peak) in
    cond (le lobe zero) (dec 5 100) (clamp_of (two ⊗ mass_of sample valley (peak / 2) ⊘ lobe) (dec 1 100) (dec 4 10))

-- 1 and 2 come first; bins that are all zero are no refusal
unfoldable pub shelf_share_of : List ℕ → Float → ℕ → ℕ → Reply Float
shelf_share_of bins scale valley peak =
    let limited = valley ∷ peak ∷ length bins ∷ [] in
    chain (in_order (below_two limited ∷ above_most limited ∷ []))
    (give (share_of (recovered (used_scale_of scale) bins) valley peak))
