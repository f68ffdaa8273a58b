-- What a shelf may be, as models.rs has it. Definitions only. Assumes nothing.
use Rattle.std.specs.Prelude.{Bool, ◌&&◌, Float}
use Rattle.std.specs.Float.Ieee.{lt, le}
use Rattle.std.specs.Float.Ieee.Scale.{finite}
use Rattle.routines.specs.Constants.{zero, half, one}
use Rattle.routines.specs.Ops.{◌⊕◌, ◌⊖◌, ◌⊗◌, ◌⊘◌}
use Rattle.routines.specs.Starts.{dec}
use Rattle.helpers.specs.declared.shelves.Shelf.{Shelf}
use Rattle.models.specs.declared.shelf_rules.Bounds.{Bounds}

abbrev pub max_concentration : Float
max_concentration = dec 20 1

abbrev pub min_retained : Float
min_retained = dec 3 10

abbrev pub slack : Float
slack = dec 1 1000000000

unfoldable pub retained_of : Shelf → Float
retained_of s = s.alpha ⊘ (s.alpha ⊕ s.beta)

unfoldable pub concentration_of : Shelf → Float
concentration_of s = s.alpha ⊕ s.beta

abbrev pub bounds_of : Float → Bounds
bounds_of retained = record { low = one ⊘ retained; high = max_concentration }

abbrev pub shelf_of : Float → Float → Float → Shelf
shelf_of share retained concentration =
    record { share = share; alpha = retained ⊗ concentration; beta = (one ⊖ retained) ⊗ concentration }

unfoldable pub shelf_is_valid_of : Shelf → Bool
shelf_is_valid_of s =
    lt zero s.share
    && lt s.share half
    && finite s.alpha
    && le (one ⊖ slack) s.alpha
    && finite s.beta
    && lt zero s.beta
    && le (min_retained ⊖ slack) (retained_of s)
    && le (concentration_of s) (max_concentration ⊕ slack)
