-- ln, step by step as docs/ROUTINES.md has it and under its names, with `-` for `_`. Each of ⊕ ⊖ ⊗ is rounded once.
-- Definitions only. Assumes nothing.
use Rattle.std.specs.Prelude.{ℕ, ◌+◌, ◌/◌, ◌%◌, ◌^◌, true, cond, from_bits, to_bits, Float}
use Rattle.std.specs.Float.{nan, inf, binary64}
use Rattle.std.specs.Float.Ieee.{lt, le, eq}
use Rattle.routines.specs.Constants.{zero, half}
use Rattle.routines.specs.LnTable.{piece_of, log_of}
use Rattle.routines.specs.Ops.{◌⊕◌, ◌⊖◌, ◌⊗◌}

-- 0.6931471805598903: ln 2 to a whole number of 2 ^ -42
abbrev pub LN2_HIGH : Float
LN2_HIGH = from_bits binary64 0x3fe62e42fefa3800

-- 5.497923018708371e-14: ln 2 - LN2_HIGH
abbrev pub LN2_LOW : Float
LN2_LOW = from_bits binary64 0x3d2ef35793c76730

-- 2.2250738585072014e-308: 2 ^ -1022, the least normal value
abbrev pub NORMAL : Float
NORMAL = from_bits binary64 0x0010000000000000

-- 1.7976931348623157e+308: the largest finite value
abbrev pub LARGEST : Float
LARGEST = from_bits binary64 0x7fefffffffffffff

-- 1.8014398509481984e+16: 2 ^ 54
abbrev pub SCALE : Float
SCALE = from_bits binary64 0x4350000000000000

-- 4503599627371583.0: 2 ^ 52 + 1023 + 64
abbrev pub BIAS : Float
BIAS = from_bits binary64 0x433000000000043f

-- 290851611872329728, a whole number: 64 octaves, and what 1's pattern is above that of z's least value
abbrev pub OFFSET : ℕ
OFFSET = 0x0409500000000000

-- 47657231994322944, a whole number: the same with 10 octaves
abbrev pub SCALED_OFFSET : ℕ
SCALED_OFFSET = 0x00a9500000000000

-- 0.3333333333333337
abbrev pub B1 : Float
B1 = from_bits binary64 0x3fd555555555555c

-- 0.24999999995751013
abbrev pub B2 : Float
B2 = from_bits binary64 0x3fcfffffffe8a415

-- 0.19999999990379436
abbrev pub B3 : Float
B3 = from_bits binary64 0x3fc999999964b5dc

-- 0.16667155552646487
abbrev pub B4 : Float
B4 = from_bits binary64 0x3fc5557e58146e41

-- 0.14286322620881653
abbrev pub B5 : Float
B5 = from_bits binary64 0x3fc249579a2f17e8

-- the table: C[i], B[i], H[i] and L[i]
abbrev pub C : ℕ → Float
C i = (piece_of i).0

abbrev pub B : ℕ → Float
B i = (piece_of i).1

abbrev pub H : ℕ → Float
H i = (log_of i).0

abbrev pub L : ℕ → Float
L i = (log_of i).1

-- ln(1 + r) - r in two parts, from t = r r: the square and the cube, without their sign, and the rest
abbrev pub ln_head : Float → Float → Float
ln_head r t = t ⊗ (half ⊖ r ⊗ B1)

unfoldable pub ln_tail : Float → Float → Float
ln_tail r t = (t ⊗ t) ⊗ ((r ⊗ B3 ⊖ B2) ⊖ t ⊗ (B4 ⊖ r ⊗ B5))

-- steps 3 to 8: v. The pattern 0x3fe6b00000000000 is z's least value, 0.708984375, and 0x4330000000000000 is 2 ^ 52
unfoldable pub ln_core : Float → ℕ → Float
ln_core w offset =
    let q = to_bits binary64 w % 2 ^ 63 + offset in
    let k = from_bits binary64 (0x4330000000000000 + q / 2 ^ 52) ⊖ BIAS in
    let digits = q % 2 ^ 52 in
    let z = from_bits binary64 (digits + 0x3fe6b00000000000) in
    let i = digits / 2 ^ 45 % 128 in
    let r = (z ⊖ C i) ⊗ B i in
    let high = k ⊗ LN2_HIGH ⊕ H i in
    let sum = high ⊕ r in
    let rest = (high ⊖ sum) ⊕ r in
    let t = r ⊗ r in
    sum ⊕ ((rest ⊕ ((L i ⊕ k ⊗ LN2_LOW) ⊖ ln_head r t)) ⊕ ln_tail r t)

-- step 9: v where v x is above it, and otherwise +0
unfoldable pub beside_zero : Float → Float → Float
beside_zero x v = cond (lt v (v ⊗ x)) v zero

-- step 2 for an x that is not above 0
abbrev pub not_above_zero : Float → Float
not_above_zero x = cond (eq x zero) (inf true) nan

-- steps 1 and 2, and the others
unfoldable pub ln_of : Float → Float
ln_of x =
    cond (le NORMAL x) (cond (lt LARGEST x) x (beside_zero x (ln_core x OFFSET)))
    (cond (lt zero x) (beside_zero x (ln_core (x ⊗ SCALE) SCALED_OFFSET)) (not_above_zero x))
