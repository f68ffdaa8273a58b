-- `histogram::number::take_byte` meets its contract: each return is a case of `take_byte_of`. Assumes nothing.
use Prim.Native.Nat.{◌^◌, ◌≤◌}
use native.Mathlib.Omega.{arith}
use Rattle.histogram.proofs.Weights.{weight-mono}
use Rattle.histogram.proofs.number.take_byte.Goals as goal

pub overflow_mul-weight : goal.overflow_mul-weight
overflow_mul-weight c =
    let e = c.requires.0 in
    let m : 128 ^ c.args.groups ≤ 128 ^ 8 = weight-mono {h = 8} c.if-groups-gt8.false in
    omega arith
