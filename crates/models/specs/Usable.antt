-- Which parameters the model can use, as models.rs has it. Its tests are free of effects, so they stand in the order of
-- the components. Definitions only. Assumes nothing.
use Rattle.std.specs.Prelude.{Float, Bool, true, not, ◌&&◌, Option, None, Some}
use Rattle.std.specs.Float.Ieee.{lt, le}
use Rattle.std.specs.Float.Ieee.Scale.{finite}
use Rattle.routines.specs.Constants.{zero, one}
use Rattle.models.specs.ShelfRules.{shelf_is_valid_of}
use Rattle.models.specs.declared.errors.ErrorParams.{ErrorParams}
use Rattle.models.specs.declared.params.Params.{Params}
use Rattle.helpers.specs.declared.shelves.Shelf.{Shelf}

abbrev pub shape_usable : Option Float → Bool
shape_usable None = true
shape_usable (Some beta) = finite beta

-- a singleton probability in 0 to 1, 0 allowed and 1 not, is finite
unfoldable pub error_usable : ErrorParams → Bool
error_usable p =
    finite p.tail_exponent
    && not (le p.tail_exponent zero)
    && le zero p.singleton_probability
    && lt p.singleton_probability one
    && shape_usable p.weibull_shape

abbrev pub shelf_usable : Option Shelf → Bool
shelf_usable None = true
shelf_usable (Some s) = shelf_is_valid_of s

unfoldable pub params_usable : Params → Bool
params_usable p =
    finite p.mean
    && finite p.dispersion
    && finite p.target_mode
    && not (le p.mean zero)
    && error_usable p.error_params
    && shelf_usable p.shelf
