-- `search::refusing::search_refusal` meets its contract: row by row of its chain. Assumes nothing.
use Prim.Native.Nat.{ℕ, ◌≤◌, ◌<◌}
use mathlib.Core.Path.{◌≡◌, refl, ◌∙◌}
use mathlib.Core.Bool.{Bool, false}
use mathlib.Core.List.{List, [], ◌∷◌, ◌++◌, append-nil}
use native.Mathlib.Omega.{arith}
use lib.ListN.{length}
use borrow.Author.Tests.{lt-ltb, le-ltb, ne_eqb}
use Rattle.meaning.specs.Reply.{Test, first_of}
use Rattle.meaning.specs.Rows.{most, in_order, too_short}
use Rattle.meaning.proofs.Chains.{stops, goes_on}
use Rattle.meaning.proofs.Says.{handed_number, refusal_numbered}
use Rattle.models.specs.Prepared.{ready_demand}
use Rattle.models.specs.Refusals.{bins_tests, spectrum_tests, short_table, table_tests}
use Rattle.models.specs.declared.problems.Problem.{Problem}
use Rattle.models.proofs.Passed.{spectrum-passed}
use Rattle.search.specs.Refusing.{wrong_starts, short_runs, search_tests}
use Rattle.search.specs.declared.refusing.Lent.{Lent}
use Rattle.search.proofs.refusing.search_refusal.Goals as goal

module _ (bins : List ℕ) (p : Problem) (runs : ℕ) (wrong : Bool) (lent : Lent) where
  -- the rows behind the spectrum's
  abbrev ready-rows : List Test
  ready-rows = too_short lent.ready (ready_demand p.window_end) ++ in_order (short_runs p runs lent ∷ [])

  abbrev table-rows : List Test
  table-rows = short_table p.genome p.window_end lent.table ++ ready-rows

  abbrev start-rows : List Test
  start-rows = wrong_starts wrong ++ table-rows

  module _ (some : 2 ≤ length bins) (few : length bins ≤ most) (end-few : p.window_end ≤ most) where
    spectrum-alone : (n : ℕ) → n ≡ first_of (bins_tests bins p.scale p.window_end)
        → n ≡ first_of (spectrum_tests bins p.scale p.window_end)
    unfolding bins_tests
    spectrum-alone n e =
        simp (
          le-ltb (length bins) 2 some,
          le-ltb most (length bins) few,
          le-ltb most p.window_end end-few,
          append-nil {A = Test},
        ) at e

    module _ (peak-some : 2 ≤ p.peak) (peak-few : p.peak ≤ most) (runs-few : runs ≤ most) where
      at-spectrum : (n : ℕ) → n ≡ first_of (spectrum_tests bins p.scale p.window_end ++ start-rows)
          → n ≡ first_of (search_tests bins p runs wrong lent)
      unfolding search_tests
      at-spectrum n e =
          simp (
            le-ltb p.peak 2 peak-some,
            le-ltb (length bins) 2 some,
            le-ltb most (length bins) few,
            le-ltb most p.peak peak-few,
            le-ltb most p.window_end end-few,
            le-ltb most runs runs-few,
          )
          e

      by-spectrum : (n : ℕ) → n ≡ first_of (bins_tests bins p.scale p.window_end) → 0 < n
          → n ≡ first_of (search_tests bins p runs wrong lent)
      by-spectrum n e h =
          at-spectrum n (stops (spectrum_tests bins p.scale p.window_end) start-rows n (spectrum-alone n e) h)

      module _ (passed : 0 ≡ first_of (bins_tests bins p.scale p.window_end)) where
        at-starts : (n : ℕ) → n ≡ first_of start-rows → n ≡ first_of (search_tests bins p runs wrong lent)
        unfolding spectrum_tests
        at-starts n e =
            at-spectrum n
            (goes_on (spectrum_tests bins p.scale p.window_end) start-rows refl (spectrum-alone 0 passed) n e)

        table-alone : (n : ℕ) → n ≡ first_of (table_tests p.genome p.window_end lent.table)
            → n ≡ first_of (short_table p.genome p.window_end lent.table)
        table-alone n e =
            let end = (spectrum-passed bins p.scale p.window_end (spectrum-alone 0 passed)).end-some in
            simp (le-ltb most p.window_end end-few, ne_eqb p.window_end 0 (λ (z : p.window_end ≡ 0). omega arith)) at e

        module _ (right : wrong ≡ false) where
          at-table : (n : ℕ) → n ≡ first_of table-rows → n ≡ first_of (search_tests bins p runs wrong lent)
          at-table n e = at-starts n (goes_on (wrong_starts wrong) table-rows refl (rw right) n e)

          by-table : (n : ℕ) → n ≡ first_of (table_tests p.genome p.window_end lent.table) → 0 < n
              → n ≡ first_of (search_tests bins p runs wrong lent)
          by-table n e h =
              at-table n (stops (short_table p.genome p.window_end lent.table) ready-rows n (table-alone n e) h)

          module _ (fits : 0 ≡ first_of (table_tests p.genome p.window_end lent.table)) where
            at-ready : (n : ℕ) → n ≡ first_of ready-rows → n ≡ first_of (search_tests bins p runs wrong lent)
            at-ready n e =
                at-table n
                (goes_on (short_table p.genome p.window_end lent.table) ready-rows refl (table-alone 0 fits) n e)

            by-ready : lent.ready < ready_demand p.window_end → 10 ≡ first_of (search_tests bins p runs wrong lent)
            by-ready h = at-ready 10 (rw (lt-ltb lent.ready (ready_demand p.window_end) h))

            by-runs : ready_demand p.window_end ≤ lent.ready → (n : ℕ) → n ≡ first_of (short_runs p runs lent)
                → n ≡ first_of (search_tests bins p runs wrong lent)
            by-runs h n e =
                at-ready n (rw (le-ltb lent.ready (ready_demand p.window_end) h, append-nil (short_runs p runs lent)) e)

pub returns-in_err-spectrum_refusal : goal.returns-in_err-spectrum_refusal
returns-in_err-spectrum_refusal c =
    let a = c.args in
    handed_number _ _ c.from_residual.ensures.1
    ∙ by-spectrum a.bins.now a.problem a.runs a.wrong a.lent c.if-bins-lt2.false c.if-bins-gt-MOST.false
    c.if-problem-gt-MOST-2.false c.if-problem-lt2.false c.if-problem-gt-MOST.false c.if-runs-gt-MOST.false
    _ c.in_err-spectrum_refusal.ensures (refusal_numbered _)

pub returns-then-wrong : goal.returns-then-wrong
returns-then-wrong c =
    let a = c.args in
    at-starts a.bins.now a.problem a.runs a.wrong a.lent c.if-bins-lt2.false c.if-bins-gt-MOST.false
    c.if-problem-gt-MOST-2.false c.if-problem-lt2.false c.if-problem-gt-MOST.false c.if-runs-gt-MOST.false
    c.in_ok-spectrum_refusal.ensures _ (rw c.if-wrong.true)

pub returns-in_err-table_refusal : goal.returns-in_err-table_refusal
returns-in_err-table_refusal c =
    let a = c.args in
    handed_number _ _ c.from_residual-in_err-table_refusal.ensures.1
    ∙ by-table a.bins.now a.problem a.runs a.wrong a.lent c.if-bins-lt2.false c.if-bins-gt-MOST.false
    c.if-problem-gt-MOST-2.false c.if-problem-lt2.false c.if-problem-gt-MOST.false c.if-runs-gt-MOST.false
    c.in_ok-spectrum_refusal.ensures c.if-wrong.false _ c.in_err-table_refusal.ensures (refusal_numbered _)

pub returns-then-lent-problem : goal.returns-then-lent-problem
returns-then-lent-problem c =
    let a = c.args in
    by-ready a.bins.now a.problem a.runs a.wrong a.lent c.if-bins-lt2.false c.if-bins-gt-MOST.false
    c.if-problem-gt-MOST-2.false c.if-problem-lt2.false c.if-problem-gt-MOST.false c.if-runs-gt-MOST.false
    c.in_ok-spectrum_refusal.ensures c.if-wrong.false c.in_ok-table_refusal.ensures c.if-lent-problem.true

pub returns : goal.returns
returns c =
    let a = c.args in
    by-runs a.bins.now a.problem a.runs a.wrong a.lent c.if-bins-lt2.false c.if-bins-gt-MOST.false
    c.if-problem-gt-MOST-2.false c.if-problem-lt2.false c.if-problem-gt-MOST.false c.if-runs-gt-MOST.false
    c.in_ok-spectrum_refusal.ensures c.if-wrong.false c.in_ok-table_refusal.ensures c.if-lent-problem.false _
    c.runs_refusal.ensures
