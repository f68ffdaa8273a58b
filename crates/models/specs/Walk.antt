-- The walk of the hole cutoff, as models.rs has it: over probabilities by their count, added one after another in f64
-- from count 0. And which probabilities demand 3 speaks of. Definitions only. Assumes nothing.
use Rattle.std.specs.Prelude.{ℕ, zero, suc, ◌-◌, max, Bool, true, ◌&&◌, cond, Float, Option, None, Some}
use Rattle.std.specs.Float.Ieee.{lt, le}
use Rattle.routines.specs.Constants.{two, zero as nought}
use Rattle.routines.specs.Ops.{◌⊕◌}

-- ---- the walk
-- `left` counts are left, from c on; `cdf` is the f64 sum of the probabilities below c. The sum through c is compared.
unfoldable pub walk_from : (ℕ → Float) → Float → ℕ → ℕ → Float → Option ℕ
walk_from p allowed zero c cdf = None
walk_from p allowed (suc left) c cdf =
    let next = cdf ⊕ p c in
    let rest = walk_from p allowed left (suc c) next in
    cond (lt allowed next) (Some (max c 2)) rest

-- c goes from 1 to ceiling - 1. The Rust cuts its answer off at 65,535; no ceiling is higher.
unfoldable pub walk_of : (ℕ → Float) → Float → ℕ → Option ℕ
walk_of p allowed ceiling = walk_from p allowed (ceiling - 1) 1 (p 0)

-- ---- from 0 to 2, both included; a NaN is not
unfoldable pub probable : Float → Bool
probable x = le nought x && le x two

-- each of p 0 to p (n - 1)
unfoldable pub all_probable : (ℕ → Float) → ℕ → Bool
all_probable p zero = true
all_probable p (suc n) = all_probable p n && probable (p n)
