-- The shelf share by its lobe: what an empty one and any other give. Assumes nothing.
use Prim.Native.Nat.{ℕ, ◌*◌, ◌/◌}
use mathlib.Core.Path.{◌≡◌, sym}
use mathlib.Core.Bool.{true, false}
use mathlib.Core.List.{List}
use lib.Ieee.{Float, le}
use Rattle.routines.specs.Constants.{zero, two}
use Rattle.routines.specs.Ops.{◌⊗◌, ◌⊘◌}
use Rattle.routines.specs.Starts.{dec}
use Rattle.fitter.specs.Shares.{mass_of, clamp_of, share_of}

-- ---- the lobe
module _ (sample : List ℕ) (valley peak : ℕ) (lobe : Float) (whole : lobe ≡ mass_of sample valley (2 * peak)) where
  pub empty-lobe : (x : Float) → x ≡ dec 5 100 → le lobe zero ≡ true → x ≡ share_of sample valley peak
  unfolding share_of
  empty-lobe x e none = rw (sym whole, none) e

  pub full-lobe : (part low high : Float) → part ≡ mass_of sample valley (peak / 2) → low ≡ dec 1 100 → high ≡ dec 4 10
      → le lobe zero ≡ false → clamp_of (two ⊗ part ⊘ lobe) low high ≡ share_of sample valley peak
  unfolding share_of
  full-lobe part low high p l h some = rw (sym whole, some, sym p, l, h)
