-- The special values of the four routines, as ISO C Annex F lists them. Assumes nothing.
use Rattle.std.proofs.Common.{◌≡◌, Bool, true, false, refl}
use lib.Ieee.{nan, inf, of_bits, to_bits, neg, add, sub, mul, div, lt, le, eq}
use Rattle.routines.specs.Tables.{rows}
use Rattle.routines.specs.LnTable.{ln_rows}
use Rattle.routines.specs.Held.{at_least, at_most}
use Rattle.routines.specs.Signs.{zero_with}
use Rattle.routines.specs.Constants.{one, minus_one, two}
use Rattle.routines.specs.Exp.{exp_of, tee, scaled_up, scaled_by, reduced, exp_tail, beside_one, out_of_range}
use Rattle.routines.specs.Ln.{ln_of, ln_core, ln_tail, beside_zero}
use Rattle.routines.specs.Expm1.{expm1_of, tee_m, far_out}
use Rattle.routines.specs.Whole.{floor_of}
use Rattle.routines.specs.Lgamma.{lgamma_of, above_zero, below_zero, stirling_with}

-- ---- exp
pub exp-zero : (s : Bool) → exp_of (zero_with s) ≡ one
unfolding exp_of tee scaled_up scaled_by reduced exp_tail beside_one at_least at_most rows to_bits of_bits add sub mul lt le
exp-zero true = refl
exp-zero false = refl

pub exp-inf : exp_of (inf false) ≡ inf false
unfolding exp_of tee out_of_range of_bits add mul lt le
exp-inf = refl

pub exp-minus-inf : exp_of (inf true) ≡ zero_with false
unfolding exp_of tee out_of_range of_bits add mul lt le
exp-minus-inf = refl

pub exp-nan : exp_of nan ≡ nan
unfolding exp_of tee out_of_range of_bits add mul lt le
exp-nan = refl

-- ---- ln
pub ln-one : ln_of one ≡ zero_with false
unfolding ln_of ln_core ln_tail beside_zero ln_rows to_bits of_bits neg add sub mul lt le
ln-one = refl

pub ln-zero : (s : Bool) → ln_of (zero_with s) ≡ inf true
unfolding ln_of of_bits lt le eq
ln-zero true = refl
ln-zero false = refl

pub ln-inf : ln_of (inf false) ≡ inf false
unfolding ln_of of_bits lt le eq
ln-inf = refl

pub ln-nan : ln_of nan ≡ nan
unfolding ln_of of_bits lt le eq
ln-nan = refl

-- ---- expm1
pub expm1-zero : (s : Bool) → expm1_of (zero_with s) ≡ zero_with s
unfolding expm1_of of_bits eq
expm1-zero true = refl
expm1-zero false = refl

pub expm1-inf : expm1_of (inf false) ≡ inf false
unfolding expm1_of tee_m far_out exp_of tee out_of_range of_bits add mul lt le eq
expm1-inf = refl

pub expm1-minus-inf : expm1_of (inf true) ≡ minus_one
unfolding expm1_of tee_m far_out of_bits add mul lt le eq
expm1-minus-inf = refl

pub expm1-nan : expm1_of nan ≡ nan
unfolding expm1_of tee_m far_out of_bits add mul lt le eq
expm1-nan = refl

-- ---- lgamma
pub lgamma-one : lgamma_of one ≡ zero_with false
unfolding lgamma_of above_zero of_bits lt le eq
lgamma-one = refl

pub lgamma-two : lgamma_of two ≡ zero_with false
unfolding lgamma_of above_zero of_bits lt le eq
lgamma-two = refl

pub lgamma-inf : (s : Bool) → lgamma_of (inf s) ≡ inf false
unfolding lgamma_of above_zero below_zero floor_of stirling_with ln_of of_bits neg add sub mul div lt le eq
lgamma-inf true = refl
lgamma-inf false = refl

pub lgamma-nan : lgamma_of nan ≡ nan
unfolding lgamma_of above_zero stirling_with ln_of of_bits neg add sub mul div lt le eq
lgamma-nan = refl
