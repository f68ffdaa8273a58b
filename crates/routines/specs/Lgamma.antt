-- lgamma, step by step as docs/ROUTINES.md has it and under its names, with `-` for `_`. Each of ⊕ ⊖ ⊗ ⊘ is rounded
-- once.
-- Definitions only. Assumes nothing.
use Rattle.std.specs.Prelude.{false, cond, from_bits, Float}
use Rattle.std.specs.Float.{inf, binary64}
use Rattle.std.specs.Float.Ieee.{neg, lt, le, eq}
use Rattle.routines.specs.Constants.{zero, half, one, two, three, four}
use Rattle.routines.specs.Ln.{ln_of}
use Rattle.routines.specs.Ops.{◌⊕◌, ◌⊖◌, ◌⊗◌, ◌⊘◌}
use Rattle.routines.specs.Whole.{floor_of}

-- 0.0833333333333029
abbrev pub S0 : Float
S0 = from_bits binary64 0x3fb5555555554cc4

-- 0.0027777777589263228
abbrev pub S1 : Float
S1 = from_bits binary64 0x3f66c16c142a2547

-- 0.0007936474005580868
abbrev pub S2 : Float
S2 = from_bits binary64 0x3f4a0198d0a247b3

-- 0.0005949658648868027
abbrev pub S3 : Float
S3 = from_bits binary64 0x3f437eef774952f5

-- 0.0008302878749904084
abbrev pub S4 : Float
S4 = from_bits binary64 0x3f4b34f5a27a085b

-- 0.0016464537495094853
abbrev pub S5 : Float
S5 = from_bits binary64 0x3f5af9ba408b96b2

-- 0.0027324238438044194
abbrev pub S6 : Float
S6 = from_bits binary64 0x3f66624ee188cfaf

-- 0.4189385332046727: ln(2 pi)/2 - 1/2
abbrev pub STIRLING_CONSTANT : Float
STIRLING_CONSTANT = from_bits binary64 0x3fdacfe390c97d69

-- ln Gamma(x) from 4 on, from x and its logarithm
unfoldable pub stirling_with : Float → Float → Float
stirling_with x log =
    let i = one ⊘ x in
    let z = i ⊗ i in
    let y = z ⊗ z in
    let s = (S0 ⊖ z ⊗ S1) ⊕ y ⊗ ((S2 ⊖ z ⊗ S3) ⊕ y ⊗ ((S4 ⊖ z ⊗ S5) ⊕ y ⊗ S6)) in
    (x ⊖ half) ⊗ (log ⊖ one) ⊕ (STIRLING_CONSTANT ⊕ i ⊗ s)

abbrev pub stirling_of : Float → Float
stirling_of x = stirling_with x (ln_of x)

-- four steps up: x (x + 1) (x + 2) (x + 3) is q (q + 2)
unfoldable pub four_up : Float → Float
four_up x =
    let q = x ⊗ (x ⊕ three) in
    stirling_of (x ⊕ four) ⊖ ln_of (q ⊗ (q ⊕ two))

unfoldable pub above_zero : Float → Float
above_zero x = cond (lt x four) (cond (eq x one) zero (cond (eq x two) zero (four_up x))) (stirling_of x)

-- step 4, from a and its fraction f
unfoldable pub reflected : Float → Float → Float
reflected a f = (above_zero f ⊕ above_zero (one ⊖ f)) ⊖ above_zero (one ⊕ a)

-- steps 2 to 4
unfoldable pub below_zero : Float → Float
below_zero x =
    let a = neg x in
    let n = floor_of a in
    cond (eq n a) (inf false) (reflected a (a ⊖ n))

-- step 1, and the others
unfoldable pub lgamma_of : Float → Float
lgamma_of x = cond (le x zero) (below_zero x) (above_zero x)
