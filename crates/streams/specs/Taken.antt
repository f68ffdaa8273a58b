-- Nothing to write is written. Whether the system takes a byte, no contract says. Definitions only. Assumes nothing.
use Rattle.std.specs.Prelude.{ℕ, ◌≡◌, List, length, Result, IsOk}

abbrev pub Taken : {T E : Type 0} → List ℕ → Result T E → Type 0
Taken xs all = length xs ≡ 0 → IsOk all
