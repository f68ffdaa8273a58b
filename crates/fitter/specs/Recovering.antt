-- The bins as the sample had them: each over the scale, rounded. Definitions only. Assumes nothing.
use Rattle.std.specs.Prelude.{ℕ, List, [], ◌∷◌, map, length, Float}
use Rattle.meaning.specs.Reply.{Reply, give, chain}
use Rattle.meaning.specs.Rows.{in_order, below_two, above_most, too_short}
use Rattle.models.specs.Recovery.{used_scale_of, rounded_quotient_of}

-- `used` is the scale in use
unfoldable pub recovered : Float → List ℕ → List ℕ
recovered used bins = map (λ (n : ℕ). rounded_quotient_of n used) bins

-- the bins that are written into a slice of `room`: 1, 2 and 10 come first
unfoldable pub recover_bins_of : List ℕ → Float → ℕ → Reply (List ℕ)
recover_bins_of bins scale room =
    chain (in_order (below_two (length bins ∷ []) ∷ above_most (length bins ∷ []) ∷ too_short room (length bins) ∷ []))
    (give (recovered (used_scale_of scale) bins))
