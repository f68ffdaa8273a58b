-- `listing::text::put_rows` meets its contract: at each turn the bytes still to come are the rows of the bins left.
-- Assumes nothing.
use Prim.Native.Nat.{ℕ, suc, ◌+◌, ◌≤◌, ◌<◌}
use mathlib.Core.Path.{◌≡◌, subst}
use mathlib.Core.List.{List, ◌++◌}
use native.Mathlib.Omega.{arith}
use lib.ListN.{length, get_or, drop}
use Rattle.histogram.proofs.Puts.{Putting, begins, fits, room, puts-all, ends}
use Rattle.listing.specs.Listing.{row_of, rows_of}
use Rattle.listing.proofs.Lines.{rows-turn, no-rows-left}
use Rattle.listing.proofs.text.put_rows.Goals as goal

-- the row of the bin at the loop's place is next
next : (xs b out : List ℕ) (at k v : ℕ) → Putting (rows_of 1 xs) b out (rows_of (suc k) (drop k xs)) at → k < length xs → v ≡ get_or xs k 0
    → Putting (rows_of 1 xs) b out (row_of (k + 1) v ++ rows_of (suc (k + 1)) (drop (k + 1) xs)) at
next xs b out at k v p h e = subst (λ (r : List ℕ). Putting (rows_of 1 xs) b out r at) (rows-turn xs k v h e) p

pub loop-i-init : goal.loop-i-init
loop-i-init c = begins _ _

pub put_row-at-requires : goal.put_row-at-requires
put_row-at-requires c =
    let l = c.loop-i in
    room _ _ _ _ _ _ (next _ _ _ _ _ _ l.invariant c.loop-i-test.true c.from.ensures) c.requires

pub overflow_add-at : goal.overflow_add-at
overflow_add-at c =
    let l = c.loop-i in
    let long : l.at + length (row_of (l.i + 1) c.from.result) ≤ length l.out =
    fits _ _ _ _ _ _ (next _ _ _ _ _ _ l.invariant c.loop-i-test.true c.from.ensures) c.requires in
    omega arith

pub loop-i-preserved : goal.loop-i-preserved
loop-i-preserved c =
    let l = c.loop-i in
    let put = c.put_row-at in
    puts-all _ _ _ _ _ _ (next _ _ _ _ _ _ l.invariant c.loop-i-test.true c.from.ensures) c.requires put.new.out put.result put.ensures.0 put.ensures.1

pub returns : goal.returns
returns c =
    let l = c.loop-i in
    let xs = c.args.bins.now in
    ends _ _ _ _ (subst (λ (r : List ℕ). Putting (rows_of 1 xs) c.args.out.now l.out r l.at) (no-rows-left xs l.i c.loop-i-test.false) l.invariant)
