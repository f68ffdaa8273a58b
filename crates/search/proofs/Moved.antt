-- A point that is made of two, coordinate by coordinate: its length, and each coordinate. Assumes nothing.
use Prim.Native.Nat.{ℕ, zero, suc, ◌<◌}
use mathlib.Core.Path.{◌≡◌, refl, ap}
use mathlib.Core.List.{List, [], ◌∷◌}
use native.Mathlib.Nat.{not-suc-le-zero, le_of_suc-le-suc, suc_inj, suc-ne-zero}
use lib.ListN.{length, get_or}
use lib.Ieee.{Float}
use Rattle.search.specs.Points.{moved_of, moved}
use Rattle.search.specs.declared.points.Move.{Move}

pub moved_length : (how : Move) (xs ys : List Float) → length xs ≡ length ys → length (moved how xs ys) ≡ length xs
unfolding moved
moved_length how [] ys e = refl
moved_length how (x ∷ xs) [] e = absurd (suc-ne-zero (length xs) e)
moved_length how (x ∷ xs) (y ∷ ys) e = ap suc (moved_length how xs ys (suc_inj e))

pub moved_at : (how : Move) (xs ys : List Float) (i : ℕ) (d : Float) → length xs ≡ length ys → i < length xs → get_or (moved how xs ys) i d ≡ moved_of how (get_or xs i d) (get_or ys i d)
unfolding moved
moved_at how [] ys i d e h = absurd (not-suc-le-zero h)
moved_at how (x ∷ xs) [] i d e h = absurd (suc-ne-zero (length xs) e)
moved_at how (x ∷ xs) (y ∷ ys) zero d e h = refl
moved_at how (x ∷ xs) (y ∷ ys) (suc i) d e h = moved_at how xs ys i d (suc_inj e) (le_of_suc-le-suc h)
