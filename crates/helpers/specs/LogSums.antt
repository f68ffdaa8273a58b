-- Log sums and their kin, as math_helpers.rs has them, operation by operation. Definitions only. Assumes nothing.
use Rattle.std.specs.Prelude.{true, ◌||◌, cond, Float}
use Rattle.std.specs.Float.{nan, inf}
use Rattle.std.specs.Float.Ieee.{neg, lt, le, eq, ne}
use Rattle.std.specs.Float.Ieee.Scale.{finite}
use Rattle.routines.specs.Constants.{zero, one}
use Rattle.routines.specs.Exp.{exp_of}
use Rattle.routines.specs.Expm1.{expm1_of}
use Rattle.routines.specs.Ln.{ln_of}
use Rattle.routines.specs.Ops.{◌⊕◌, ◌⊖◌, ◌⊘◌}
use Rattle.routines.specs.Pick.{max_of}
use Rattle.helpers.specs.declared.log_sums.Logs3.{Logs3}

-- e^(x - m)
abbrev pub weight_of : Float → Float → Float
weight_of x m = exp_of (x ⊖ m)

-- a maximum that is not finite is the answer; the maximum skips a NaN
unfoldable pub lse2_of : Float → Float → Float
lse2_of a b =
    let m = max_of a b in
    cond (finite m) (m ⊕ ln_of (weight_of a m ⊕ weight_of b m)) m

unfoldable pub lse3_of : Float → Float → Float → Float
lse3_of a b c =
    let m = max_of (max_of a b) c in
    cond (finite m) (m ⊕ ln_of (weight_of a m ⊕ weight_of b m ⊕ weight_of c m)) m

abbrev pub softmax3_of : Float → Float → Float → Logs3
softmax3_of a b c = let norm = lse3_of a b c in record { first = a ⊖ norm; second = b ⊖ norm; third = c ⊖ norm }

unfoldable pub ln_sub_exp_of : Float → Float → Float
ln_sub_exp_of high low =
    cond (eq high (inf true)) high (cond (lt high low || ne low low) nan (high ⊕ ln_of (neg (expm1_of (low ⊖ high)))))

unfoldable pub sigmoid_of : Float → Float
sigmoid_of v = cond (le zero v) (one ⊘ (one ⊕ exp_of (neg v))) (exp_of v ⊘ (one ⊕ exp_of v))
