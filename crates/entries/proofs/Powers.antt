-- Every row of exp's table keeps the rule of specs/Powers.antt: one computed test over the whole table. Assumes
-- nothing.
use mathlib.Core.Path.{◌≡◌, refl, sym, subst}
use mathlib.Core.List.{[]}
use Prim.Native.Nat.{ℕ, ◌<◌}
use lib.Dec.{T}
use lib.ListN.{length, get_or}
use lib.Ieee.{of_bits}
use Rattle.meaning.specs.Table.{wrong}
use Rattle.meaning.proofs.Rules.{each}
use Rattle.entries.specs.ExpTable.{rows}
use Rattle.entries.specs.Powers.{power_row_holds}

none-wrong : wrong power_row_holds 0 rows ≡ []
unfolding rows of_bits
none-wrong = refl

count : length rows ≡ 32
unfolding rows
count = refl

-- THE RULE
pub powers-nearest : (i : ℕ) → i < 32 → T (power_row_holds i (get_or rows i (0, 0)))
powers-nearest i h = each power_row_holds (0, 0) rows none-wrong i (subst (λ (n : ℕ). i < n) (sym count) h)
