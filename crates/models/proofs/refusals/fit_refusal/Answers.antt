-- `models::refusals::fit_refusal` meets its contract. Assumes nothing.
use Prim.Native.Nat.{ℕ, ◌≤◌, ◌<◌}
use mathlib.Core.List.{List, [], ◌∷◌}
use mathlib.Core.Path.{◌≡◌, refl, sym, ◌∙◌}
use borrow.Author.Tests.{eq-eqb, le-ltb}
use lib.ListN.{length}
use lib.Ieee.{Float}
use Rattle.meaning.specs.Reply.{Test, refuse, give, chain, first_of}
use Rattle.meaning.specs.Rows.{most, in_order}
use Rattle.meaning.proofs.Chains.{stops, goes_on, chain-refused, chain-passed}
use Rattle.meaning.proofs.Says.{handed_as, refusal_numbered}
use Rattle.helpers.proofs.WindowEnds.{window-end-is}
use Rattle.models.specs.Families.{list_length_of}
use Rattle.models.specs.Refusals.{fit_tests, spectrum_tests, wrong_list, short_table}
use Rattle.models.specs.declared.families.ErrorModel.{ErrorModel}
use Rattle.models.specs.declared.families.GenomeModel.{GenomeModel}
use Rattle.models.proofs.Passed.{spectrum-passed}
use Rattle.models.proofs.refusals.fit_refusal.Goals as goal

module _ (bins : List ℕ) (scale : Float) (end peak : ℕ) (error : ErrorModel) (genome : GenomeModel)
    (listed room : ℕ) where
  abbrev tests : List Test
  tests = fit_tests bins scale end peak error genome listed room

  abbrev rest : List (List Test)
  rest = wrong_list listed error genome ∷ short_table genome end room ∷ []

  refused : (n : ℕ) → n ≡ first_of tests → 0 < n → refuse n ≡ chain tests (give end)
  refused n e h = sym (chain-refused (give end) tests n e h)

  given : 0 ≡ first_of tests → give end ≡ chain tests (give end)
  unfolding fit_tests spectrum_tests
  given e = sym (chain-passed (give end) tests refl e)

  module _ (p : 2 ≤ peak) (b : 2 ≤ length bins) (q : length bins ≤ most) (r : peak ≤ most) (e : end ≤ most) where
    spectrum : (n : ℕ) → n ≡ first_of (spectrum_tests bins scale end) → 0 < n → n ≡ first_of tests
    unfolding fit_tests
    spectrum n f h =
        simp (le-ltb _ _ p, le-ltb _ _ b, le-ltb _ _ q, le-ltb _ _ r, le-ltb _ _ e)
        (stops (spectrum_tests bins scale end) (in_order rest) n f h)

    -- the table's number, where the others have none
    table : 0 ≡ first_of (spectrum_tests bins scale end) → listed ≡ list_length_of error genome
        → (n : ℕ) → n ≡ first_of (short_table genome end room) → n ≡ first_of tests
    unfolding fit_tests
    table z l n h =
        simp (le-ltb _ _ p, le-ltb _ _ b, le-ltb _ _ q, le-ltb _ _ r, le-ltb _ _ e)
        (goes_on (spectrum_tests bins scale end) (in_order rest) (unfold spectrum_tests in refl) z n
        (simp (eq-eqb _ _ l) h))

pub returns-in_err-window_refusal : goal.returns-in_err-window_refusal
returns-in_err-window_refusal c =
    let some = refusal_numbered c.in_err-window_refusal.field-0.0 in
    handed_as _ _ _ c.from_residual.ensures.1
    ∙ refused _ _ _ _ _ _ _ _ _
    (spectrum _ _ _ _ _ _ _ _ c.if-peak-lt2.false c.if-bins-lt2.false c.if-bins-gt-MOST.false
    c.if-peak-gt-MOST.false c.if-window_end-gt-MOST.false _ c.in_err-window_refusal.ensures some)
    some

pub returns-in_err-short_refusal : goal.returns-in_err-short_refusal
returns-in_err-short_refusal c =
    handed_as _ _ _ c.from_residual-in_err-short_refusal.ensures.1
    ∙ refused _ _ _ _ _ _ _ _ _
    (table _ _ _ _ _ _ _ _ c.if-peak-lt2.false c.if-bins-lt2.false c.if-bins-gt-MOST.false
    c.if-peak-gt-MOST.false c.if-window_end-gt-MOST.false c.in_ok-window_refusal.ensures
    (c.if-listed-list_length.false ∙ c.list_length.ensures) _ c.in_err-short_refusal.ensures)
    (refusal_numbered c.in_err-short_refusal.field-0.0)

pub returns : goal.returns
returns c =
    let few = c.if-window_end-gt-MOST.false in
    let some = (spectrum-passed _ _ _ c.in_ok-window_refusal.ensures).end-some in
    c.window_end.ensures ∙ window-end-is _ some few
    ∙ given _ _ _ _ _ _ _ _
    (table _ _ _ _ _ _ _ _ c.if-peak-lt2.false c.if-bins-lt2.false c.if-bins-gt-MOST.false
    c.if-peak-gt-MOST.false few c.in_ok-window_refusal.ensures
    (c.if-listed-list_length.false ∙ c.list_length.ensures) _ c.in_ok-short_refusal.ensures)
