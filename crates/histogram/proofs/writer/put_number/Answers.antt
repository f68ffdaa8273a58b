-- `histogram::writer::put_number` meets its contract: at each turn the bytes still to come are those of what is left.
-- Assumes nothing.
use Prim.Native.Nat.{ℕ, ◌+◌, ◌/◌, ◌%◌, ◌≤◌, ◌<◌}
use mathlib.Core.Path.{subst}
use mathlib.Core.List.{List, [], ◌∷◌}
use native.Mathlib.Omega.{arith}
use lib.ListN.{length}
use Rattle.histogram.specs.Number.{number_bytes}
use Rattle.histogram.proofs.Groups.{bytes-last, bytes-more}
use Rattle.histogram.proofs.Puts.{Putting, begins, fits, puts, ends}
use Rattle.histogram.proofs.writer.put_number.Goals as goal

module _ (n left at : ℕ) (b out : List ℕ) (h : length (number_bytes n) ≤ length b) (p : Putting (number_bytes n) b out (number_bytes left) at) where
  -- the next byte, in a turn and behind the loop
  next : 128 ≤ left → Putting (number_bytes n) b out ((128 + left % 128) ∷ number_bytes (left / 128)) at
  next m = subst (λ (rest : List ℕ). Putting (number_bytes n) b out rest at) (bytes-more left m) p

  last : left < 128 → Putting (number_bytes n) b out (left ∷ []) at
  last m = subst (λ (rest : List ℕ). Putting (number_bytes n) b out rest at) (bytes-last left m) p

  inside : 128 ≤ left → at + 1 ≤ length out
  inside m = fits (number_bytes n) b out at ((128 + left % 128) ∷ []) (number_bytes (left / 128)) (next m) h

  inside-last : left < 128 → at + 1 ≤ length out
  inside-last m = fits (number_bytes n) b out at (left ∷ []) [] (last m) h

pub loop-left-init : goal.loop-left-init
loop-left-init c = begins _ _

pub bounds-out-at : goal.bounds-out-at
bounds-out-at c =
    let l = c.loop-left in omega (arith, inside c.args.n l.left l.at c.args.out.now l.out c.requires l.invariant c.loop-left-test.true)

pub loop-left-preserved : goal.loop-left-preserved
loop-left-preserved c =
    let l = c.loop-left in
    puts _ _ _ _ (128 + l.left % 128) (number_bytes (l.left / 128)) (next c.args.n l.left l.at c.args.out.now l.out c.requires l.invariant c.loop-left-test.true) c.requires

pub bounds-out-at-2 : goal.bounds-out-at-2
bounds-out-at-2 c =
    let l = c.loop-left in omega (arith, inside-last c.args.n l.left l.at c.args.out.now l.out c.requires l.invariant c.loop-left-test.false)

pub returns : goal.returns
returns c =
    let l = c.loop-left in
    ends _ _ _ _ (puts _ _ _ _ l.left [] (last c.args.n l.left l.at c.args.out.now l.out c.requires l.invariant c.loop-left-test.false) c.requires)
