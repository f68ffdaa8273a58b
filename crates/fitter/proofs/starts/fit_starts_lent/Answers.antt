-- `fitter::starts::fit_starts_lent` meets its contract. Assumes nothing.
use Prim.Native.Nat.{ℕ, ◌+◌, ◌*◌, ◌/◌, ◌<◌, ◌≤◌}
use mathlib.Core.Bool.{Bool, false}
use mathlib.Core.Path.{◌≡◌, refl, sym, ap, ◌∙◌, subst}
use mathlib.Core.List.{List, [], ◌∷◌, ◌++◌}
use denote.Ref.{Bor}
use lib.Dec.{ltb, eqb}
use lib.ListN.{length}
use lib.Ieee.{Float}
use borrow.Author.Tests.{ltb-false, eqb-true, eqb-false}
use Rattle.meaning.specs.Over.{over}
use Rattle.meaning.specs.Reply.{give, first_of}
use Rattle.models.specs.Families.{list_length_of}
use Rattle.models.specs.declared.families.ErrorModel.{ErrorModel}
use Rattle.models.specs.declared.families.GenomeModel.{GenomeModel}
use Rattle.fitter.specs.StartTables.{table_of, wrong_tables}
use Rattle.fitter.specs.Starts.{hint_of, per_row, all_starts}
use Rattle.fitter.proofs.Parts.{width_some}
use Rattle.fitter.proofs.Answers.{chosen, empty-refused, some-fine, table-some, tables-refused, shapes-refused}
use Rattle.fitter.proofs.Answers.{room-refused, given, needed, starts-are}
use Rattle.fitter.proofs.starts.fit_starts_lent.Goals as goal

-- ---- the table, by what `start_table` says of it
module _ (error : ErrorModel) (pareto weibull table : Bor (List Float))
    (value : 0 ≡ first_of (wrong_tables (length pareto.now) (length weibull.now)) → table ≡ table_of error pareto weibull)
    (none : 7 ≡ first_of (wrong_tables (length pareto.now) (length weibull.now)) → table.now ≡ []) where
  took : 0 ≡ first_of (wrong_tables (length pareto.now) (length weibull.now))
      → table.now ≡ table_of error pareto.now weibull.now
  took e =
      ap (λ (r : Bor (List Float)). r.now) (value e) ∙ chosen (λ (r : Bor (List Float)). r.now) error pareto weibull

  empty : length table.now ≡ 0 → 7 ≡ first_of (wrong_tables (length pareto.now) (length weibull.now))
  empty = empty-refused error pareto.now weibull.now table.now took none

  module _ {is_empty : Bool} (is : is_empty ≡ eqb (length table.now) 0) (not : is_empty ≡ false) where
    fine : 0 ≡ first_of (wrong_tables (length pareto.now) (length weibull.now))
    fine = some-fine error pareto.now weibull.now table.now took none (eqb-false _ _ (sym is ∙ not))

    has-rows : 0 < length table.now / 3
    has-rows =
        subst (λ (l : List Float). 0 < length l / 3) (sym (took fine)) (table-some error pareto.now weibull.now fine)

    -- ---- the test of the room, and what is written
    module _ (genome : GenomeModel) (seeds : List Float) (hint share : Float) (shapes : List Float) (room : ℕ) where
      abbrev all : List Float
      all =
          all_starts error genome (seeds ++ (hint_of hint ∷ [])) (table_of error pareto.now weibull.now) share shapes

      short-is : (width each : ℕ) (short : Bool) → width ≡ list_length_of error genome
          → each ≡ per_row genome (length shapes)
          → short ≡ ltb room ((length seeds + 1) * (length table.now / 3 * (each * width)))
          → short ≡ ltb room (length all)
      short-is width each short ew ee es =
          es
          ∙ ap (ltb room)
          (needed error genome pareto.now weibull.now seeds hint share shapes room table.now (took fine) width each ew ee)

      writes : (used : Float) → used ≡ hint_of hint
          → all_starts error genome (seeds ++ (used ∷ [])) table.now share shapes ≡ all
      writes used e =
          starts-are error genome pareto.now weibull.now seeds hint share shapes room table.now (took fine) used e

pub returns-then-is_empty : goal.returns-then-is_empty
returns-then-is_empty c =
    let a = c.args in
    let t = c.start_table-table in
    rw
    (tables-refused a.error a.genome a.pareto.now a.weibull.now a.seeds.now a.hint a.share a.shapes.now (length a.out.now)
    (empty a.error a.pareto a.weibull t.result t.ensures.value t.ensures.result_value (eqb-true _ _ (sym c.is_empty.ensures ∙ c.if-is_empty.true))))
    (record { result_value = refl; out_after = refl })

pub returns-then-shapes-ne0 : goal.returns-then-shapes-ne0
returns-then-shapes-ne0 c =
    let a = c.args in
    let t = c.start_table-table in
    rw
    (shapes-refused a.error a.genome a.pareto.now a.weibull.now a.seeds.now a.hint a.share a.shapes.now (length a.out.now)
    (fine a.error a.pareto a.weibull t.result t.ensures.value t.ensures.result_value c.is_empty.ensures c.if-is_empty.false)
    c.if-shapes-ne0.true)
    (record { result_value = refl; out_after = refl })

pub too_short-requires : goal.too_short-requires
too_short-requires c =
    let a = c.args in
    let t = c.start_table-table in
    record {
      width_nonzero = subst (λ (k : ℕ). 0 < k) (sym c.list_length-width.ensures) (width_some a.error a.genome);
      rows_nonzero =
          has-rows a.error a.pareto a.weibull t.result t.ensures.value t.ensures.result_value c.is_empty.ensures c.if-is_empty.false;
    }

pub returns-then-too_short : goal.returns-then-too_short
returns-then-too_short c =
    let a = c.args in
    let t = c.start_table-table in
    let short =
    short-is a.error a.pareto a.weibull t.result t.ensures.value t.ensures.result_value c.is_empty.ensures c.if-is_empty.false a.genome
    a.seeds.now a.hint a.share a.shapes.now (length a.out.now) _ _ _ c.list_length-width.ensures c.per_row-each.ensures
    c.too_short.ensures in
    rw
    (room-refused a.error a.genome a.pareto.now a.weibull.now a.seeds.now a.hint a.share a.shapes.now (length a.out.now)
    (fine a.error a.pareto a.weibull t.result t.ensures.value t.ensures.result_value c.is_empty.ensures c.if-is_empty.false)
    c.if-shapes-ne0.false (sym short ∙ c.if-too_short.true))
    (record { result_value = refl; out_after = refl })

pub write_starts-requires : goal.write_starts-requires
write_starts-requires c =
    let a = c.args in
    let t = c.start_table-table in
    let short =
    short-is a.error a.pareto a.weibull t.result t.ensures.value t.ensures.result_value c.is_empty.ensures c.if-is_empty.false a.genome
    a.seeds.now a.hint a.share a.shapes.now (length a.out.now) _ _ _ c.list_length-width.ensures c.per_row-each.ensures
    c.too_short.ensures in
    let all-are =
    writes a.error a.pareto a.weibull t.result t.ensures.value t.ensures.result_value c.is_empty.ensures c.if-is_empty.false a.genome
    a.seeds.now a.hint a.share a.shapes.now (length a.out.now) _ c.used_hint.ensures in
    subst (λ (l : List Float). length l ≤ length a.out.now) (sym all-are) (ltb-false _ _ (sym short ∙ c.if-too_short.false))

pub returns : goal.returns
returns c =
    let a = c.args in
    let t = c.start_table-table in
    let w = c.write_starts in
    let short =
    short-is a.error a.pareto a.weibull t.result t.ensures.value t.ensures.result_value c.is_empty.ensures c.if-is_empty.false a.genome
    a.seeds.now a.hint a.share a.shapes.now (length a.out.now) _ _ _ c.list_length-width.ensures c.per_row-each.ensures
    c.too_short.ensures in
    let all-are =
    writes a.error a.pareto a.weibull t.result t.ensures.value t.ensures.result_value c.is_empty.ensures c.if-is_empty.false a.genome
    a.seeds.now a.hint a.share a.shapes.now (length a.out.now) _ c.used_hint.ensures in
    rw
    (given a.error a.genome a.pareto.now a.weibull.now a.seeds.now a.hint a.share a.shapes.now (length a.out.now)
    (fine a.error a.pareto a.weibull t.result t.ensures.value t.ensures.result_value c.is_empty.ensures c.if-is_empty.false)
    c.if-shapes-ne0.false (sym short ∙ c.if-too_short.false))
    (record {
      result_value = ap give (w.ensures.0 ∙ ap length all-are);
      out_after = w.ensures.1 ∙ ap (λ (l : List Float). over l a.out.now) all-are;
    })
