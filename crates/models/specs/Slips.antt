-- Two walks that document 01 calls slips: over the same probabilities, the same allowed share and ceiling, but added in
-- another order. Nothing else uses them. Definitions only. Assumes nothing.
use Rattle.std.specs.Prelude.{ℕ, zero, suc, ◌-◌, max, cond, Float, Option, None, Some}
use Rattle.std.specs.Float.Ieee.{lt}
use Rattle.routines.specs.Ops.{◌⊕◌}

-- `sum` and then p (c - 1) down to p 0
unfoldable pub down_from : (ℕ → Float) → Float → ℕ → Float
down_from p sum zero = sum
down_from p sum (suc c) = down_from p (sum ⊕ p c) c

-- the sum of p 0 to p c, begun at p c
unfoldable pub from_top : (ℕ → Float) → ℕ → Float
from_top p c = down_from p (p c) c

-- the same, two at a time from p c down: p 0 + .. + (p (c - 3) + p (c - 2)) + (p (c - 1) + p c)
unfoldable pub in_pairs : (ℕ → Float) → ℕ → Float
in_pairs p zero = p 0
in_pairs p (suc zero) = p 0 ⊕ p 1
in_pairs p (suc (suc c)) = in_pairs p c ⊕ (p (suc c) ⊕ p (suc (suc c)))

-- the walk over such sums
unfoldable pub walk_by : (ℕ → Float) → Float → ℕ → ℕ → Option ℕ
walk_by sum allowed zero c = None
walk_by sum allowed (suc left) c =
    let rest = walk_by sum allowed left (suc c) in
    cond (lt allowed (sum c)) (Some (max c 2)) rest

abbrev pub slip_of : (ℕ → Float) → Float → ℕ → Option ℕ
slip_of sum allowed ceiling = walk_by sum allowed (ceiling - 1) 1
