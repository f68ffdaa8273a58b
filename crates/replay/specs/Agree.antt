-- When the port's answer is the row's: each word is the row's, or both are a NaN's. Definitions only. Assumes nothing.
use Rattle.std.specs.Prelude.{ℕ, ◌<◌, ◌≡◌, List, ◌⊎◌, length, get_or}
use Rattle.std.specs.Float.{nan, binary64}
use Rattle.std.specs.Float.Ieee.{of_bits}

-- ours, and the row's: our NaNs have one pattern
abbrev pub Same : ℕ → ℕ → Type 0
Same ours theirs = (ours ≡ theirs) ⊎ ((ours ≡ 0x7ff8000000000000) × (of_bits binary64 theirs ≡ nan))

-- the first n of ours, and all of the row's
abbrev pub Agree : ℕ → List ℕ → List ℕ → Type 0
Agree n ours row = (n ≡ length row) × ((k : ℕ) → k < n → Same (get_or ours k 0) (get_or row k 0))
