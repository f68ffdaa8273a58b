-- expm1, step by step as docs/ROUTINES.md has it and under its names, with `-` for `_`. Each of ⊕ ⊖ ⊗ is rounded once.
-- Definitions only. Assumes nothing.
use Rattle.std.specs.Prelude.{◌*◌, ◌/◌, ◌%◌, ◌^◌, cond, from_bits, to_bits, Float}
use Rattle.std.specs.Float.{binary64}
use Rattle.std.specs.Float.Ieee.{lt, le, eq}
use Rattle.routines.specs.Constants.{zero, one, minus_one}
use Rattle.routines.specs.Exp.{PER_STEP, STEP_HIGH, STEP_LOW, T, D, exp_tail, exp_of}
use Rattle.routines.specs.Held.{at_least, at_most}
use Rattle.routines.specs.Ops.{◌⊕◌, ◌⊖◌, ◌⊗◌}

-- 6755399441088480.0: 1.5 * 2 ^ 52 + 1023 * 32
abbrev pub SHIFT : Float
SHIFT = from_bits binary64 0x4338000000007fe0

-- 6755399441086720.0: SHIFT - 1,760
abbrev pub LEAST : Float
LEAST = from_bits binary64 0x4338000000007900

-- 6755399441090240.0: SHIFT + 1,760
abbrev pub MOST : Float
MOST = from_bits binary64 0x43380000000086c0

-- step 2: t
unfoldable pub tee_m : Float → Float
tee_m x = x ⊗ PER_STEP ⊕ SHIFT

-- step 3: x too far out for the table, or a NaN
unfoldable pub far_out : Float → Float
far_out x = cond (lt x zero) minus_one (cond (le zero x) (exp_of x) x)

-- steps 4 to 9: v
unfoldable pub less_one : Float → Float → Float
less_one x t =
    let k = t ⊖ SHIFT in
    let y = x ⊖ k ⊗ STEP_HIGH in
    let l = k ⊗ STEP_LOW in
    let r = y ⊖ l in
    let u = to_bits binary64 t in
    let i = u % 32 in
    let a = from_bits binary64 (u / 32 % 2048 * 2 ^ 52) in
    let big = T i ⊗ a in
    let small = big ⊗ D i in
    let h = exp_tail r in
    let less = big ⊖ one in
    let back = less ⊖ big in
    let g = (big ⊖ (less ⊖ back)) ⊖ (one ⊕ back) in
    let s = less ⊕ y in
    let e = y ⊖ (s ⊖ less) in
    s ⊕ ((h ⊕ (less ⊕ small) ⊗ (r ⊕ h)) ⊕ ((e ⊕ g) ⊕ (small ⊖ l)))

-- step 10: below 0, v held to -1 and above and to 0 and below; otherwise v held to 0 and above
unfoldable pub beside_minus_one : Float → Float → Float
beside_minus_one x v = cond (lt x zero) (at_most (at_least v minus_one) zero) (at_least v zero)

-- step 1, and the others
unfoldable pub expm1_of : Float → Float
expm1_of x =
    cond (eq x zero) x
    (let t = tee_m x in cond (le LEAST t) (cond (le t MOST) (beside_minus_one x (less_one x t)) (far_out x)) (far_out x))
