-- A flag cast to a number is the number that the texts have for it. Assumes nothing.
use mathlib.Core.Path.{◌≡◌, refl}
use mathlib.Core.Bool.{Bool, true, false}
use mir.Val.{bool_byte}
use Rattle.meaning.specs.Flags.{byte_of}

pub flag_number : (b : Bool) → bool_byte b ≡ byte_of b
flag_number true = refl
flag_number false = refl
