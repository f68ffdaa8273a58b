-- `listing::text::put_decimal` meets its contract: at each turn the digits still to come are those of what is left.
-- Assumes nothing.
use Prim.Native.Nat.{ℕ, suc, ◌-◌, ◌/◌, ◌%◌, ◌≤◌, ◌<◌}
use mathlib.Core.Path.{◌≡◌, sym, subst}
use mathlib.Core.List.{List, []}
use native.Mathlib.Omega.{arith}
use lib.ListN.{length, set}
use Rattle.listing.specs.Decimal.{digit_of, decimal_of}
use Rattle.listing.proofs.Decimals.{digits-one, digits_more, digits-some}
use Rattle.listing.proofs.Backs.{Backing, within, same, puts, ends}
use Rattle.listing.proofs.text.put_decimal.Goals as goal

module _ (n left at : ℕ) (b out : List ℕ) (h : length (decimal_of n) ≤ length b) (p : Backing (decimal_of n) b out (decimal_of left) at) where
  -- there is a place to put a digit at
  some : (1 ≤ at) × (at ≤ length out)
  some =
      let d = digits-some left in
      let w = within (decimal_of n) b h out at (decimal_of left) p in
      let s = same (decimal_of n) b h out at (decimal_of left) p in
      (omega (arith, p.ahead), omega (arith, h))

  -- the next digit, in a turn and behind the loop
  turn : 10 ≤ left → (i : ℕ) → at ≡ suc i → Backing (decimal_of n) b (set out i (digit_of (left % 10))) (decimal_of (left / 10)) i
  turn m i e =
      puts (decimal_of n) b h out at (digit_of (left % 10)) (decimal_of (left / 10)) i e
      (subst (λ (front : List ℕ). Backing (decimal_of n) b out front at) (digits_more left m) p)

  last : left < 10 → Backing (decimal_of n) b (set out 0 (digit_of left)) [] 0
  last m =
      let q = subst (λ (front : List ℕ). Backing (decimal_of n) b out front at) (digits-one left m) p in
      puts (decimal_of n) b h out at (digit_of left) [] 0 (sym q.ahead) q

pub overflow_sub-at : goal.overflow_sub-at
overflow_sub-at c =
    let l = c.loop-left in omega (arith, (some c.args.n l.left l.at c.args.out.now l.out c.requires l.invariant).0)

pub bounds-out-at : goal.bounds-out-at
bounds-out-at c =
    let l = c.loop-left in
    let s = some c.args.n l.left l.at c.args.out.now l.out c.requires l.invariant in
    omega (arith, s.0, s.1)

pub loop-left-preserved : goal.loop-left-preserved
loop-left-preserved c =
    let l = c.loop-left in
    let s = some c.args.n l.left l.at c.args.out.now l.out c.requires l.invariant in
    turn c.args.n l.left l.at c.args.out.now l.out c.requires l.invariant c.loop-left-test.true (l.at - 1) (omega (arith, s.0))

pub bounds-out-0 : goal.bounds-out-0
bounds-out-0 c =
    let l = c.loop-left in
    let s = some c.args.n l.left l.at c.args.out.now l.out c.requires l.invariant in
    omega (arith, s.0, s.1)

pub returns : goal.returns
returns c =
    let l = c.loop-left in (
      c.decimal_size-size.ensures,
      ends _ _ c.requires _ _ (last c.args.n l.left l.at c.args.out.now l.out c.requires l.invariant c.loop-left-test.false),
    )
