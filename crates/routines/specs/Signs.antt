-- What a sign says: definitions for the theorems on special values. Definitions only. Assumes nothing.
use Rattle.std.specs.Prelude.{Bool, true, not, pos, Float}
use Rattle.std.specs.Float.{nan, inf, fin}

-- a NaN, or the sign is clear: -0 has it set
abbrev pub sign_clear : Float → Bool
sign_clear nan = true
sign_clear (inf s) = not s
sign_clear (fin s m e) = not s

-- the zero with the sign s
abbrev pub zero_with : Bool → Float
zero_with s = fin s 0 (pos 0)
