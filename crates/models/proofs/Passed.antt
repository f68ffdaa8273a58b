-- What is known once no test of `fit_tests` holds, row by row, and what cost answers by the number that they give.
-- Assumes nothing.
use Prim.Native.Nat.{ℕ, ◌≤◌, ◌<◌}
use mathlib.Core.Path.{◌≡◌, refl, sym, ap, ◌∙◌}
use mathlib.Core.Bool.{true, false}
use mathlib.Core.List.{List, [], ◌∷◌}
use native.Mathlib.Omega.{arith}
use lib.ListN.{length}
use lib.Ieee.{Float}
use Rattle.meaning.specs.Reply.{Reply, refuse, give, Test, test, chain, first_of}
use Rattle.meaning.specs.Rows.{most, in_order, below_two, above_most, outside}
use Rattle.meaning.proofs.Chains.{parts, chain-refused, chain-passed, gave-passed}
use Rattle.meaning.proofs.Replies.{answer-not-refused, same_number, gave-answer}
use Rattle.meaning.proofs.Rows.{test-passed, above-most-passed, outside-passed, too-short-passed}
use Rattle.routines.specs.Ops.{of_count}
use Rattle.models.specs.Costs.{cost_with, table_with, cost_at, table_at, cost_of, cost_table}
use Rattle.models.specs.Masses.{entries_of}
use Rattle.models.specs.Params.{params_of}
use Rattle.models.specs.Recovery.{used_scale_of}
use Rattle.models.specs.Refusals.{all_zero, none_recovered, wrong_list, table_demand, short_table, spectrum_tests}
use Rattle.models.specs.Refusals.{fit_tests}
use Rattle.models.specs.Spectra.{none_recovered_of}
use Rattle.models.specs.Tables.{entries_in}
use Rattle.models.specs.declared.families.ErrorModel.{ErrorModel}
use Rattle.models.specs.declared.families.GenomeModel.{GenomeModel}
use Rattle.models.specs.declared.params.Params.{Params}
use Rattle.models.proofs.Filled.{entries_fit}

-- ---- the rows
pub record InWindow (bins : List ℕ) (scale : Float) (end : ℕ) : Type 0 where
  pub end-some : 1 ≤ end
  pub recovered : none_recovered_of bins (used_scale_of scale) end ≡ false

pub spectrum-passed : (bins : List ℕ) (scale : Float) (end : ℕ) → 0 ≡ first_of (spectrum_tests bins scale end)
    → InWindow bins scale end
unfolding spectrum_tests
spectrum-passed bins scale end z =
    let last = none_recovered bins scale end ∷ [] in
    let zeros = parts (all_zero bins) (in_order (outside end (length bins) ∷ last)) refl z in
    let window = parts (outside end (length bins)) (in_order last) refl zeros.1 in
    record {
      end-some = (outside-passed end (length bins) window.0).0;
      recovered = test-passed _ 6 (omega arith) window.1;
    }

pub record Passed (bins : List ℕ) (scale : Float) (end peak : ℕ) (genome : GenomeModel) (room : ℕ) : Type 0 where
  pub peak-few : peak ≤ most
  pub end-few : end ≤ most
  pub spectrum : InWindow bins scale end
  pub roomed : table_demand genome end ≤ room

pub passed : (bins : List ℕ) (scale : Float) (end peak : ℕ) (error : ErrorModel) (genome : GenomeModel) (listed room : ℕ)
    → 0 ≡ first_of (fit_tests bins scale end peak error genome listed room) → Passed bins scale end peak genome room
unfolding fit_tests
passed bins scale end peak error genome listed room z =
    let buffer = short_table genome end room ∷ [] in
    let list = wrong_list listed error genome ∷ buffer in
    let spectrum = spectrum_tests bins scale end ∷ list in
    let above = above_most (length bins ∷ peak ∷ end ∷ []) ∷ spectrum in
    let fews = parts (below_two (peak ∷ length bins ∷ [])) (in_order above) refl z in
    let manys = parts (above_most (length bins ∷ peak ∷ end ∷ [])) (in_order spectrum) refl fews.1 in
    let spectra = parts (spectrum_tests bins scale end) (in_order list) (unfold spectrum_tests in refl) manys.1 in
    let lists = parts (wrong_list listed error genome) (in_order buffer) refl spectra.1 in
    let (bins-most, (peak-most, (end-most, none))) = above-most-passed (length bins ∷ peak ∷ end ∷ []) manys.0 in
    record {
      peak-few = peak-most;
      end-few = end-most;
      spectrum = spectrum-passed bins scale end spectra.0;
      roomed = too-short-passed room (table_demand genome end) lists.1;
    }

-- a chain that refused gives its number
number-refused : (end : ℕ) (ts : List Test) (n : ℕ) → refuse n ≡ chain ts (give end) → n ≡ first_of ts
number-refused end [] n e = absurd (answer-not-refused (sym e))
number-refused end (test true m ∷ ts) n e = same_number e
number-refused end (test false m ∷ ts) n e = number-refused end ts n e

-- ---- what cost answers; `top` is the window end that came back
module _ (bins : List ℕ) (scale : Float) (end peak : ℕ) (error : ErrorModel) (genome : GenomeModel) (list : List Float) where
  abbrev tests : ℕ → List Test
  tests room = fit_tests bins scale end peak error genome (length list) room

  abbrev p : Params
  p = params_of error genome (of_count peak) list

  -- what `fit_refusal` answered
  module _ (room n : ℕ) where
    pub came-refused : refuse n ≡ chain (tests room) (give end) → n ≡ first_of (tests room)
    came-refused = number-refused end (tests room) n

    pub came-given : give n ≡ chain (tests room) (give end)
        → (0 ≡ first_of (tests room)) × (n ≡ end) × Passed bins scale end peak genome room
    came-given e =
        let first = gave-passed end n (tests room) (sym e) in (
          first,
          sym (gave-answer end n (tests room) (sym e)),
          passed bins scale end peak error genome (length list) room first,
        )

  module _ (room n : ℕ) (e : n ≡ first_of (tests room)) where
    pub tests-refused : {A : Type 0} (r : Reply A) → 0 < n → refuse n ≡ chain (tests room) r
    tests-refused r h = sym (chain-refused r (tests room) n e h)

    pub tests-passed : {A : Type 0} (r : Reply A) → n ≡ 0 → r ≡ chain (tests room) r
    unfolding fit_tests spectrum_tests
    tests-passed r z = sym (chain-passed r (tests room) refl (sym z ∙ e))

    all-passed : n ≡ 0 → Passed bins scale end peak genome room
    all-passed z = passed bins scale end peak error genome (length list) room (sym z ∙ e)

    -- the table holds all of the shelf's entries
    pub entries-all : n ≡ 0 → entries_in p.shelf p.mean end room ≡ entries_of p.shelf p.mean end
    entries-all z =
        let all = all-passed z in
        entries_fit genome end room all.spectrum.end-some all.end-few all.roomed error (of_count peak) list

    pub cost-refused : 0 < n → refuse n ≡ cost_of bins scale end peak error genome list room
    unfolding cost_of
    cost-refused h = tests-refused _ h

    pub cost-given : (top : ℕ) (v used : Float) (q : Params) → n ≡ 0 → top ≡ end → used ≡ used_scale_of scale → q ≡ p
        → v ≡ cost_with bins used top q (entries_in q.shelf q.mean top room)
        → give v ≡ cost_of bins scale end peak error genome list room
    unfolding cost_of cost_at
    cost-given top v used q z s u d h =
        ap give (h ∙ rw (s, u, d) (ap (cost_with bins (used_scale_of scale) end p) (entries-all z))) ∙ tests-passed _ z

  module _ (held : List Float) (n : ℕ) (e : n ≡ first_of (tests (length held))) where
    pub refused-table : 0 < n → held ≡ cost_table bins scale end peak error genome list held
    unfolding cost_table
    refused-table h = rw (sym (cost-refused (length held) n e h))

    pub given-table : (top : ℕ) (t : List Float) (q : Params) → n ≡ 0 → top ≡ end → q ≡ p
        → t ≡ table_with q (entries_in q.shelf q.mean top (length held)) held
        → t ≡ cost_table bins scale end peak error genome list held
    unfolding cost_table table_at
    given-table top t q z s d o =
        rw (sym (cost-given (length held) n e end _ _ p z refl refl refl refl))
        (o ∙ rw (s, d) (ap (λ (x : List Float). table_with p x held) (entries-all (length held) n e z)))
