-- `histogram::writer::put_bins` meets its contract: at each turn the bytes still to come are those of the bins left.
-- Assumes nothing.
use Prim.Native.Nat.{ℕ, ◌+◌, ◌≤◌, ◌<◌}
use mathlib.Core.Path.{◌≡◌, subst}
use mathlib.Core.List.{List, ◌++◌}
use native.Mathlib.Omega.{arith}
use lib.ListN.{length, get_or, drop}
use Rattle.histogram.specs.Number.{number_bytes, numbers_bytes}
use Rattle.histogram.proofs.Puts.{Putting, begins, fits, room, puts-all, ends}
use Rattle.histogram.proofs.Sizes.{bytes-turn, no-bytes-left}
use Rattle.histogram.proofs.writer.put_bins.Goals as goal

-- the bin at the loop's place is next
next : (xs b out : List ℕ) (at k v : ℕ) → Putting (numbers_bytes xs) b out (numbers_bytes (drop k xs)) at → k < length xs → v ≡ get_or xs k 0
    → Putting (numbers_bytes xs) b out (number_bytes v ++ numbers_bytes (drop (k + 1) xs)) at
next xs b out at k v p h e = subst (λ (r : List ℕ). Putting (numbers_bytes xs) b out r at) (bytes-turn xs k v h e) p

pub loop-bin-init : goal.loop-bin-init
loop-bin-init c = begins _ _

pub put_number-at-requires : goal.put_number-at-requires
put_number-at-requires c =
    room _ _ _ _ _ _ (next _ _ _ _ _ _ c.loop-bin.invariant c.loop-bin-test.true c.from.ensures) c.requires

pub overflow_add-at : goal.overflow_add-at
overflow_add-at c =
    let l = c.loop-bin in
    let long : l.at + length (number_bytes c.from.result) ≤ length l.out =
    fits _ _ _ _ _ _ (next _ _ _ _ _ _ l.invariant c.loop-bin-test.true c.from.ensures) c.requires in
    omega arith

pub loop-bin-preserved : goal.loop-bin-preserved
loop-bin-preserved c =
    let put = c.put_number-at in
    puts-all _ _ _ _ _ _ (next _ _ _ _ _ _ c.loop-bin.invariant c.loop-bin-test.true c.from.ensures) c.requires put.new.out put.result put.ensures.0 put.ensures.1

pub returns : goal.returns
returns c =
    let l = c.loop-bin in
    let xs = c.args.bins.now in
    ends _ _ _ _ (subst (λ (r : List ℕ). Putting (numbers_bytes xs) c.args.out.now l.out r l.at) (no-bytes-left xs l.bin-index c.loop-bin-test.false) l.invariant)
