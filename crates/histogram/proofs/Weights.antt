-- What a group counts: 128 to the number of groups before it. A `u64` has ten groups at most. Assumes nothing.
use Prim.Native.Nat.{ℕ, suc, ◌*◌, ◌^◌, ◌≤◌, ◌<◌}
use mathlib.Core.Path.{◌≡◌}
use mathlib.Core.Logic.{⊎_elim}
use native.Mathlib.Nat.{one-le-pow, pow-succ', pow-le-pow_right, mul-le-mul_left}
use native.Mathlib.Omega.{arith}
use lib.Dec.{lit<}
use Rattle.histogram.proofs.Tests.{below_or}

pub weight-pos : (g : ℕ) → 1 ≤ 128 ^ g
weight-pos g = one-le-pow g 128 (lit< tt)

pub weight-suc : (g : ℕ) → 128 ^ suc g ≡ 128 * 128 ^ g
weight-suc g = pow-succ' 128 g

pub weight-mono : {g h : ℕ} → g ≤ h → 128 ^ g ≤ 128 ^ h
weight-mono l = pow-le-pow_right (lit< tt) l

-- an eleventh group counts more than a `u64` holds
weight-deep : (g : ℕ) → 10 ≤ g → 2 ^ 64 ≤ 128 ^ g
weight-deep g h = let m : 128 ^ 10 ≤ 128 ^ g = weight-mono h in omega arith

-- a weight that fits a `u64` is that of one of ten groups
pub ten-groups : (g : ℕ) → 128 ^ g < 2 ^ 64 → g ≤ 9
ten-groups g h = ⊎_elim (λ (l : g < 10). omega arith) (λ (d : 10 ≤ g). let w = weight-deep g d in absurd (omega arith)) (below_or g 10)

-- one of the first nine groups fits
pub group-fits : (low g : ℕ) → low < 128 → g ≤ 8 → low * 128 ^ g < 2 ^ 64
group-fits low g l h =
    let m : 128 ^ g ≤ 128 ^ 8 = weight-mono {h = 8} h in
    let p : low * 128 ^ g ≤ low * 128 ^ 8 = mul-le-mul_left low m in
    omega arith
