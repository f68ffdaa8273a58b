-- `templates::filling::fill` meets its contract. Assumes nothing.
use Prim.Native.Nat.{ℕ, suc}
use mathlib.Core.Path.{subst}
use mathlib.Core.List.{List}
use native.Mathlib.Numerals.{add-one}
use lib.ListN.{drop, get_or, drop_of_length-le}
use lib.Seq.{drop-cons}
use Rattle.templates.proofs.Cuts.{goes_by, ends}
use Rattle.templates.proofs.Pieces.{text-more, text-none}
use Rattle.templates.proofs.filling.fill.Invariants.{ToCome}
use Rattle.templates.proofs.filling.fill.Goals as goal

pub loop-c-preserved : goal.loop-c-preserved
loop-c-preserved c =
    let a = c.args in
    let l = c.loop-c in
    let k = l.c-index in
    let b = get_or a.template.now k 0 in
    let rest = drop (suc k) a.template.now in
    let p = subst (λ (r : List ℕ). ToCome a.at a.template.now a.values.now a.out.now l.end l.s r l.out) (drop-cons a.template.now k 0 c.loop-c-test.true) l.invariant in
    let n = goes_by _ _ _ l.end l.out _ _ _ _ (rw (text-more a.values.now l.s b rest) at p) (c.put_shown-end.ensures.value, c.put_shown-end.ensures.out_after) in
    rw (add-one k, c.state_after-s.ensures) n

pub returns : goal.returns
returns c =
    let a = c.args in
    let l = c.loop-c in
    let p = subst (λ (rest : List ℕ). ToCome a.at a.template.now a.values.now a.out.now l.end l.s rest l.out) (drop_of_length-le a.template.now c.loop-c-test.false) l.invariant in
    let r = ends _ _ _ l.end l.out (rw (text-none a.values.now l.s) at p) in
    record { value = r.0; out_after = r.1 }
