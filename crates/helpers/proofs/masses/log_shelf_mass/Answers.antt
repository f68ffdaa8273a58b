-- `helpers::masses::log_shelf_mass` meets its contract. The loop's invariant: the entries behind entry 0 are added up,
-- one for each turn. Assumes nothing.
use mathlib.Core.Path.{◌≡◌, ap, ◌∙◌}
use Prim.Native.Nat.{ℕ, ◌+◌, ◌-◌, ◌<◌, min}
use native.Mathlib.Omega.{arith}
use mathlib.Core.Bool.{true}
use lib.Ieee.{Float, nan, inf, div, neg, of_bits}
use lib.ListN.{get_or, take, drop, length-take, length-drop}
use Rattle.meaning.specs.Fold.{fold}
use Rattle.helpers.specs.LogSums.{lse2_of}
use Rattle.helpers.specs.Masses.{shelf_mass_of, shelf_step}
use Rattle.std.proofs.lemmas.List.{get_or-take, get_or-drop}
use Rattle.helpers.proofs.Recurrences.{shelf-begins, shelf-more, shelf-ends}
use Rattle.helpers.proofs.masses.log_shelf_mass.Goals as goal

pub loop-entry-init : goal.loop-entry-init
unfolding div neg of_bits
loop-entry-init c = shelf-begins c.args.table.now

pub loop-entry-preserved : goal.loop-entry-preserved
loop-entry-preserved c =
    let table = c.args.table.now in
    let i = c.loop-entry.entry-index in
    let end = c.min-end.result in
    let start = c.min.result in
    let here : i < end - start = omega (arith, length-take {A = Float}, length-drop {A = Float}) in
    let place : start + i ≡ i + 1 = omega arith in
    let entry : get_or (take (end - start) (drop start table)) i nan ≡ get_or table (i + 1) nan =
    get_or-take _ _ _ _ here ∙ get_or-drop start table i nan ∙ rw place in
    shelf-more table (i + 1) c.loop-entry.total c.lse2-total.result nan (omega arith) (omega arith)
    c.loop-entry.invariant (c.lse2-total.ensures ∙ ap (lse2_of c.loop-entry.total) entry)

pub returns : goal.returns
unfolding shelf_mass_of
returns c =
    let turn = c.loop-entry in
    let table = c.args.table.now in
    let turns : turn.entry-index ≡ c.min-end.result - min c.min-end.result 1 =
    omega (arith, length-take {A = Float}, length-drop {A = Float}) in
    turn.invariant ∙ shelf-ends table turn.entry-index c.min-end.result turns
    ∙ ap (λ (n : ℕ). fold (shelf_step table) 1 n (inf true)) c.min-end.ensures
