-- What `spectrum_refusal` and `table_refusal` say to a caller that has made the tests of 1 and 2, or of 2 and 5, itself:
-- the number of the tests behind these. Assumes nothing.
use Prim.Native.Nat.{ℕ, ◌≤◌}
use mathlib.Core.Path.{◌≡◌, refl, sym, ◌∙◌}
use mathlib.Core.List.{List, [], ◌∷◌}
use native.Mathlib.Omega.{arith}
use borrow.Author.Tests.{le-ltb, ne_eqb}
use lib.ListN.{length}
use lib.Ieee.{Float}
use Rattle.meaning.specs.Reply.{first_of}
use Rattle.meaning.specs.Rows.{most, below_two, above_most, window_tests, in_order}
use Rattle.meaning.proofs.Chains.{goes_on}
use Rattle.meaning.proofs.Rows.{below-two-clear, above-most-clear}
use Rattle.models.specs.Refusals.{spectrum_tests, bins_tests, short_table, table_tests}
use Rattle.models.specs.declared.families.GenomeModel.{GenomeModel}

pub spectrum-number : (bins : List ℕ) (scale : Float) (end : ℕ) → 2 ≤ length bins → length bins ≤ most → end ≤ most
    → (n : ℕ) → n ≡ first_of (bins_tests bins scale end) → n ≡ first_of (spectrum_tests bins scale end)
unfolding bins_tests spectrum_tests
spectrum-number bins scale end l h k n e =
    let lows = length bins ∷ [] in
    let highs = length bins ∷ end ∷ [] in
    let spectrum = spectrum_tests bins scale end in
    let number = first_of (spectrum_tests bins scale end) in
    e
    ∙ sym
    (goes_on (below_two lows) (in_order (above_most highs ∷ spectrum ∷ [])) refl (below-two-clear lows (l, tt)) number
    (goes_on (above_most highs) spectrum refl (above-most-clear highs (h, (k, tt))) number refl))

pub table-number : (genome : GenomeModel) (end room : ℕ) → 1 ≤ end → end ≤ most
    → (n : ℕ) → n ≡ first_of (table_tests genome end room) → n ≡ first_of (short_table genome end room)
table-number genome end room h k n e =
    let clear : 0 ≡ first_of (window_tests end) =
    simp (le-ltb most end k, ne_eqb end 0 (λ (z : end ≡ 0). omega arith)) in
    e ∙ sym (goes_on (window_tests end) (short_table genome end room) refl clear (first_of (short_table genome end room)) refl)
