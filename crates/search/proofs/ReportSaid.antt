-- What the report says and what it leaves in each slice, by the number that its tests give: w and cap are what the
-- families ask for. Assumes nothing.
use Prim.Native.Nat.{ℕ, ◌+◌, ◌-◌, ◌<◌}
use mathlib.Core.Path.{◌≡◌, refl, sym, ap, ◌∙◌}
use mathlib.Core.List.{List}
use native.Mathlib.Omega.{arith}
use lib.Ieee.{Float}
use Rattle.meaning.specs.Lent.{on_give}
use Rattle.meaning.specs.Over.{over}
use Rattle.meaning.specs.Reply.{refuse, give, first_of}
use Rattle.meaning.proofs.Chains.{chain-refused, chain-passed}
use Rattle.models.specs.Families.{list_length_of}
use Rattle.models.specs.declared.families.ErrorModel.{ErrorModel}
use Rattle.models.specs.declared.families.GenomeModel.{GenomeModel}
use Rattle.search.specs.Lists.{list_of}
use Rattle.search.specs.Prices.{cap_of}
use Rattle.search.specs.Reporting.{found_at, reported_at, report_tests, report_of}
use Rattle.search.specs.declared.reporting.Columns.{Columns}
use Rattle.search.specs.declared.reporting.Found.{Found}

module _ (error : ErrorModel) (genome : GenomeModel) (runs : ℕ) (w : ℕ) (ew : w ≡ list_length_of error genome + 1) where
  -- ---- what it says
  module _ (c : Columns) (n : ℕ) (e : n ≡ first_of (report_tests w runs c)) where
    number_is : n ≡ first_of (report_tests (list_length_of error genome + 1) runs c)
    number_is = e ∙ ap (λ (k : ℕ). first_of (report_tests k runs c)) ew

    pub report-refused : 0 < n → refuse n ≡ report_of error genome runs c
    unfolding report_of
    report-refused h = sym (chain-refused (give runs) (report_tests (list_length_of error genome + 1) runs c) n number_is h)

    pub report-given : n ≡ 0 → give runs ≡ report_of error genome runs c
    unfolding report_of report_tests
    report-given z = sym (chain-passed (give runs) (report_tests (list_length_of error genome + 1) runs c) refl (sym z ∙ number_is))

    -- ---- what it leaves
    pub stands : {A : Type 0} (x held : List A) → 0 < n → held ≡ on_give (report_of error genome runs c) x held
    stands x held h = rw (sym (report-refused h))

    given : {A : Type 0} (x held : List A) → n ≡ 0 → x ≡ on_give (report_of error genome runs c) x held
    given x held z = rw (sym (report-given z))

    module _ (cap : ℕ) (ec : cap ≡ cap_of genome) (simplexes : List Float) (iterations stopped : List ℕ) where
      pub column-left : {A : Type 0} (pick : Found → A) (held now : List A) → n ≡ 0
          → now ≡ over (list_of (λ (i : ℕ). pick (found_at w cap runs simplexes iterations stopped i)) runs) held
          → now
          ≡ on_give (report_of error genome runs c)
          (over (list_of (λ (i : ℕ). pick (reported_at error genome runs simplexes iterations stopped i)) runs) held) held
      column-left {A} pick held now z h =
          h
          ∙ ap (λ (k : ℕ). column k cap) ew
          ∙ ap (column (list_length_of error genome + 1)) ec
          ∙ given (column (list_length_of error genome + 1) (cap_of genome)) held z
        where
          column : ℕ → ℕ → List A
          column k m = over (list_of (λ (i : ℕ). pick (found_at k m runs simplexes iterations stopped i)) runs) held

    pub lengths-left : (held now : List ℕ) → n ≡ 0 → now ≡ over (list_of (λ (i : ℕ). w - 1) runs) held
        → now ≡ on_give (report_of error genome runs c) (over (list_of (λ (i : ℕ). list_length_of error genome) runs) held) held
    lengths-left held now z h =
        let e : w - 1 ≡ list_length_of error genome = omega arith in
        h ∙ ap (λ (k : ℕ). over (list_of (λ (i : ℕ). k) runs) held) e ∙ given _ held z
