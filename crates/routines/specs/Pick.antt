-- Rust's `f64::max` and `f64::min`: the other where one is a NaN, and the first where the two are level (Rust leaves
-- open which of two zeros it is). Definitions only. Assumes nothing.
use Rattle.std.specs.Prelude.{cond, Float}
use Rattle.std.specs.Float.{nan, inf, fin}
use Rattle.std.specs.Float.Ieee.{lt}

-- r, but b where a is a NaN
abbrev pub skipping : Float → Float → Float → Float
skipping nan b r = b
skipping (inf s) b r = r
skipping (fin s m e) b r = r

unfoldable pub max_of : Float → Float → Float
max_of a b = skipping a b (cond (lt a b) b a)

unfoldable pub min_of : Float → Float → Float
min_of a b = skipping a b (cond (lt b a) b a)
