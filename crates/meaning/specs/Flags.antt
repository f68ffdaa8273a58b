-- A flag as a byte, as it lies in lent memory: 0 is no and any other byte is yes; what is written is 0 or 1. Definitions
-- only. Assumes nothing.
use Rattle.std.specs.Prelude.{ℕ, Bool, not, cond, eqb}

abbrev pub is_set : ℕ → Bool
is_set b = not (eqb b 0)

abbrev pub byte_of : Bool → ℕ
byte_of b = cond b 1 0
