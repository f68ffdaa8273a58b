-- Every row of ln's table keeps the rule of specs/Logs.antt: one computed test over the whole table. Assumes nothing.
use mathlib.Core.Path.{◌≡◌, refl, sym, subst}
use mathlib.Core.List.{[]}
use Prim.Native.Nat.{ℕ, ◌<◌}
use lib.Dec.{T}
use lib.ListN.{length, get_or}
use lib.Ieee.{of_bits}
use Rattle.meaning.specs.Table.{wrong}
use Rattle.meaning.proofs.Rules.{each}
use Rattle.entries.specs.LnTable.{ln_rows}
use Rattle.entries.specs.Logs.{ln_row_holds}

none-wrong : wrong ln_row_holds 0 ln_rows ≡ []
unfolding ln_rows of_bits
none-wrong = refl

count : length ln_rows ≡ 128
unfolding ln_rows
count = refl

-- THE RULE
pub logs-nearest : (i : ℕ) → i < 128 → T (ln_row_holds i (get_or ln_rows i (0, 0, 0, 0)))
logs-nearest i h = each ln_row_holds (0, 0, 0, 0) ln_rows none-wrong i (subst (λ (n : ℕ). i < n) (sym count) h)
