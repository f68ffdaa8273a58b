-- exp, step by step as docs/ROUTINES.md has it and under its names, with `-` for `_`. Each of ⊕ ⊖ ⊗ is rounded once.
-- Definitions only. Assumes nothing.
use Rattle.std.specs.Prelude.{ℕ, ◌-◌, ◌*◌, ◌/◌, ◌%◌, ◌^◌, false, cond, from_bits, to_bits, Float}
use Rattle.std.specs.Float.{inf, binary64}
use Rattle.std.specs.Float.Ieee.{lt, le}
use Rattle.routines.specs.Constants.{zero, half, one}
use Rattle.routines.specs.Held.{at_least, at_most}
use Rattle.routines.specs.Ops.{◌⊕◌, ◌⊖◌, ◌⊗◌}
use Rattle.routines.specs.Tables.{power_of}

-- 46.16624130844683: 32 / ln 2
abbrev pub PER_STEP : Float
PER_STEP = from_bits binary64 0x40471547652b82fe

-- 0.021660849392446835: ln 2 / 32 to 37 binary digits
abbrev pub STEP_HIGH : Float
STEP_HIGH = from_bits binary64 0x3f962e42fefa0000

-- 5.145609244655338e-14: ln 2 / 32 - STEP_HIGH
abbrev pub STEP_LOW : Float
STEP_LOW = from_bits binary64 0x3d2cf79abc9e3b3a

-- 6755399441121216.0: 1.5 * 2 ^ 52 + 2046 * 32
abbrev pub SHIFT : Float
SHIFT = from_bits binary64 0x433800000000ffc0

-- 6755399441086016.0: SHIFT - 35,200
abbrev pub LEAST : Float
LEAST = from_bits binary64 0x4338000000007640

-- 6755399441156416.0: SHIFT + 35,200
abbrev pub MOST : Float
MOST = from_bits binary64 0x4338000000018940

-- 0.1666666666654888
abbrev pub C3 : Float
C3 = from_bits binary64 0x3fc555555554af90

-- 0.041666666666416184
abbrev pub C4 : Float
C4 = from_bits binary64 0x3fa555555554c853

-- 0.008333365764865052
abbrev pub C5 : Float
C5 = from_bits binary64 0x3f8111156b67d626

-- 0.0013888939342807632
abbrev pub C6 : Float
C6 = from_bits binary64 0x3f56c171819f4ff3

-- the table: T[i] and D[i]
abbrev pub T : ℕ → Float
T i = (power_of i).value

abbrev pub D : ℕ → Float
D i = (power_of i).rest

-- e^r - 1 - r
unfoldable pub exp_tail : Float → Float
exp_tail r =
    let z = r ⊗ r in
    z ⊗ ((half ⊕ r ⊗ C3) ⊕ z ⊗ ((C4 ⊕ r ⊗ C5) ⊕ z ⊗ C6))

-- step 1: t
unfoldable pub tee : Float → Float
tee x = x ⊗ PER_STEP ⊕ SHIFT

-- step 2: x too far out for the table, or a NaN
unfoldable pub out_of_range : Float → Float
out_of_range x = cond (lt x zero) zero (cond (le zero x) (inf false) x)

-- step 4: r
unfoldable pub reduced : Float → Float → Float
reduced x k = (x ⊖ k ⊗ STEP_HIGH) ⊖ k ⊗ STEP_LOW

-- step 7 but for its last product, with D[i] and the tail's value h
unfoldable pub scaled_by : Float → Float → Float → Float → Float
scaled_by y d r h = y ⊕ y ⊗ ((d ⊕ r) ⊕ h)

-- steps 3 to 7: v
unfoldable pub scaled_up : Float → Float → Float
scaled_up x t =
    let k = t ⊖ SHIFT in
    let r = reduced x k in
    let u = to_bits binary64 t in
    let i = u % 32 in
    let m = u / 32 % 4096 in
    let a = from_bits binary64 (m / 2 * 2 ^ 52) in
    let b = from_bits binary64 ((m - m / 2) * 2 ^ 52) in
    let y = T i ⊗ a in
    scaled_by y (D i) r (exp_tail r) ⊗ b

-- step 8: below 0, v held to 0 and above and to 1 and below; otherwise v held to 1 and above
unfoldable pub beside_one : Float → Float → Float
beside_one x v = cond (lt x zero) (at_most (at_least v zero) one) (at_least v one)

unfoldable pub exp_of : Float → Float
exp_of x = let t = tee x in cond (le LEAST t) (cond (le t MOST) (beside_one x (scaled_up x t)) (out_of_range x)) (out_of_range x)
