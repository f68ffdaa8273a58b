-- `helpers::shelves::write_table` meets its contract. The loop's invariant: the first x entries are written, and
-- `entry` is entry x. Assumes nothing.
use mathlib.Core.Path.{◌≡◌, ap, ◌∙◌, sym}
use mathlib.Core.List.{List, ◌++◌}
use Prim.Native.Nat.{ℕ}
use native.Mathlib.Omega.{arith}
use lib.Ieee.{Float}
use lib.ListN.{length, take, drop, length-take}
use Rattle.std.proofs.lemmas.List.{append-nil, drop_all}
use Rattle.meaning.specs.Over.{over}
use Rattle.helpers.specs.Shelves.{table_of, entry_of}
use Rattle.helpers.proofs.Tables.{entry_first, entry_more, table_none, table_more, table-length}
use Rattle.helpers.proofs.shelves.write_table.Goals as goal

pub loop-x-init : goal.loop-x-init
loop-x-init c = (c.table_start-entry.ensures ∙ entry_first _ _ _, table_none _ _ _ _)

pub loop-x-preserved : goal.loop-x-preserved
loop-x-preserved c =
    let inv = c.loop-x.invariant in (
      rw (c.table_step-entry.ensures, inv.0) (entry_more _ _ _ _),
      table_more _ _ _ _ _ _ _ inv.1 c.loop-x-test.true inv.0,
    )

-- the front is written in full, and what lies behind it stands
whole : (xs b : List Float) (n : ℕ) → length xs ≡ n → over xs (take n b) ++ drop n b ≡ over xs b
unfolding over
whole xs b n e =
    ap (λ (ys : List Float). (xs ++ ys) ++ drop n b) (drop_all (length xs) (take n b) (omega (arith, length-take {A = Float})))
    ∙ ap (λ (ys : List Float). ys ++ drop n b) (append-nil xs)
    ∙ ap (λ (k : ℕ). xs ++ drop k b) (sym e)

pub returns : goal.returns
returns c =
    let inv = c.loop-x.invariant in
    let a = c.args in
    let done : c.loop-x.x ≡ a.last = omega (arith, length-take {A = Float}) in
    let written = table_of a.trials a.alpha a.beta in
    let front = inv.1 ∙ ap (λ (k : ℕ). over (written k) (take a.last a.table.now)) done in
    table_more _ _ _ _ a.table.now _ _
    (ap (λ (xs : List Float). xs ++ drop a.last a.table.now) front ∙ whole (written a.last) a.table.now a.last (table-length _ _ _ a.last))
    c.requires (inv.0 ∙ ap (entry_of a.trials a.alpha a.beta) done)
