-- `templates::puts::put_text` meets its contract. Assumes nothing.
use Rattle.templates.proofs.Cuts.{Putting, fills, goes_on, ends}
use lib.Seq.{drop-cons}
use lib.ListN.{drop, get_or, drop_of_length-le}
use native.Mathlib.Numerals.{add-one}
use native.Mathlib.Omega.{arith}
use mathlib.Core.List.{List}
use mathlib.Core.Path.{subst}
use Prim.Native.Nat.{ℕ, suc}
use Rattle.templates.proofs.puts.put_text.Goals as goal

pub returns-then-end-out : goal.returns-then-end-out
returns-then-end-out c =
    let l = c.loop-byte in
    let r = fills _ _ _ l.end l.out _ c.if-end-out.true l.invariant in
    record { value = r.0; out_after = r.1 }

pub loop-byte-preserved : goal.loop-byte-preserved
loop-byte-preserved c =
    let a = c.args in
    let l = c.loop-byte in
    let k = l.byte-index in
    let p = subst (λ (rest : List ℕ). Putting a.at a.text.now a.out.now l.end rest l.out) (drop-cons a.text.now k 0 c.loop-byte-test.true) l.invariant in
    let q = goes_on _ _ _ l.end l.out (get_or a.text.now k 0) (drop (suc k) a.text.now) (omega arith) p in
    rw (add-one k, add-one l.end) q

pub returns : goal.returns
returns c =
    let a = c.args in
    let l = c.loop-byte in
    let r = ends _ _ _ l.end l.out
    (subst (λ (rest : List ℕ). Putting a.at a.text.now a.out.now l.end rest l.out) (drop_of_length-le a.text.now c.loop-byte-test.false) l.invariant) in
    record { value = r.0; out_after = r.1 }
