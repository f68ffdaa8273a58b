-- The decimal for eyes, case by case. Assumes nothing.
use mathlib.Core.Path.{◌≡◌}
use mathlib.Core.Bool.{true, false}
use mathlib.Core.List.{◌++◌}
use lib.Ieee.{Float, lt}
use Rattle.listing.specs.Listing.{ascii}
use Rattle.routines.specs.Constants.{zero}
use Rattle.templates.specs.Floats.{FAR, size_of, places_of, eyes_of}

module _ (x t : Float) (size : t ≡ size_of x) where
  pub eyes-minus : lt t FAR ≡ true → lt x zero ≡ true → ascii "-" ++ places_of t ≡ eyes_of x
  unfolding eyes_of
  eyes-minus h l = rw (← size, h, l)

  pub eyes-plain : lt t FAR ≡ true → lt x zero ≡ false → places_of t ≡ eyes_of x
  unfolding eyes_of
  eyes-plain h l = rw (← size, h, l)

  pub eyes-far : lt t FAR ≡ false → ascii "-" ≡ eyes_of x
  unfolding eyes_of
  eyes-far h = rw (← size, h)
