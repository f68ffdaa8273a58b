-- When a BIC takes the place of another: document 01's two cases, and that a NaN or an infinity neither replaces nor is
-- replaced. Assumes nothing.
use mathlib.Core.Path.{◌≡◌, refl}
use mathlib.Core.Bool.{Bool, true, false}
use lib.Ieee.{Float, nan, inf, fin, of_bits, round, neg, add, sub, mul, lt, eq}
use Rattle.routines.specs.Pick.{max_of}
use Rattle.routines.specs.Starts.{dec}
use Rattle.models.specs.Fits.{abs_of}
use Rattle.fitter.specs.Selection.{replaces_of}

-- ---- 100, then 99.99999995 or 99.9999
pub keeps-the-first : replaces_of (dec 100 1) (dec 9999999995 100000000) ≡ false
unfolding replaces_of max_of abs_of neg add sub mul lt eq of_bits round
keeps-the-first = refl

pub takes-the-second : replaces_of (dec 100 1) (dec 999999 10000) ≡ true
unfolding replaces_of max_of abs_of neg add sub mul lt eq of_bits round
takes-the-second = refl

-- ---- a NaN or an infinity
pub below_nan : (x : Float) → lt x nan ≡ false
unfolding lt
below_nan nan = refl
below_nan (inf s) = refl
below_nan (fin s m e) = refl

pub below_all : (x : Float) → lt x (inf true) ≡ false
unfolding lt
below_all nan = refl
below_all (inf true) = refl
below_all (inf false) = refl
below_all (fin s m e) = refl

max-first : (x : Float) → max_of (inf false) x ≡ inf false
unfolding max_of lt
max-first nan = refl
max-first (inf true) = refl
max-first (inf false) = refl
max-first (fin s m e) = refl

max-second : (x : Float) → max_of x (inf false) ≡ inf false
unfolding max_of lt
max-second nan = refl
max-second (inf true) = refl
max-second (inf false) = refl
max-second (fin s m e) = refl

pub nan-stays : (next : Float) → replaces_of nan next ≡ false
unfolding replaces_of sub add
nan-stays next = below_nan next

pub infinity-stays : (s : Bool) (next : Float) → replaces_of (inf s) next ≡ false
unfolding replaces_of abs_of neg add sub mul lt eq of_bits round
infinity-stays true next = rw (max-first (abs_of next)) (below_all next)
infinity-stays false next = rw (max-first (abs_of next)) (below_nan next)

pub never-by-nan : (best : Float) → replaces_of best nan ≡ false
unfolding replaces_of lt
never-by-nan best = refl

pub never-by-infinity : (best : Float) (s : Bool) → replaces_of best (inf s) ≡ false
unfolding replaces_of abs_of neg add sub mul lt eq of_bits round
never-by-infinity nan s = below_nan (inf s)
never-by-infinity (inf b) s = infinity-stays b (inf s)
never-by-infinity (fin b m e) true = rw (max-second (abs_of (fin b m e)))
never-by-infinity (fin b m e) false = rw (max-second (abs_of (fin b m e)))
