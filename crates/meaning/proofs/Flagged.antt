-- A flag that is written as a byte is read back. Assumes nothing.
use mathlib.Core.Path.{◌≡◌, refl}
use mathlib.Core.Bool.{Bool, true, false}
use Rattle.meaning.specs.Flags.{is_set, byte_of}

pub set_back : (b : Bool) → is_set (byte_of b) ≡ b
set_back true = refl
set_back false = refl
