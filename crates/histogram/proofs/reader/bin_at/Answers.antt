-- `histogram::reader::bin_at` meets its contract. Assumes nothing.
use Prim.Native.Nat.{◌≤◌}
use mathlib.Core.Path.{sym}
use native.Mathlib.Omega.{arith}
use lib.ListN.{get_or}
use Rattle.histogram.proofs.Numbers.{one_byte}
use Rattle.histogram.proofs.reader.bin_at.Goals as goal

pub returns-then-byte-lt128 : goal.returns-then-byte-lt128
returns-then-byte-lt128 c =
    let a = c.args in
    let h : get_or a.file.now a.at 0 ≤ 4294967295 = omega arith in
    sym (one_byte 4294967295 a.file.now a.at c.if-at-file.true c.if-byte-lt128.true h)
