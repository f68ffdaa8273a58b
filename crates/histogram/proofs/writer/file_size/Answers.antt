-- `histogram::writer::file_size` meets its contract: what is counted, and what is left to count, make up the whole.
-- Assumes nothing.
use Prim.Native.Nat.{ℕ, ◌^◌, ◌≤◌, ◌<◌}
use mathlib.Core.Path.{ap}
use native.Mathlib.Omega.{arith}
use lib.ListN.{length}
use Rattle.histogram.specs.Number.{number_bytes}
use Rattle.histogram.specs.File.{most_bins}
use Rattle.histogram.proofs.Groups.{bytes-few}
use Rattle.histogram.proofs.Sizes.{size-turn, no-bytes-left, file-length}
use Rattle.histogram.proofs.writer.file_size.Goals as goal

ten : (n : ℕ) → n < 2 ^ 64 → length (number_bytes n) ≤ 10
ten n h = bytes-few 9 n (omega arith)

pub overflow_add-size : goal.overflow_add-size
overflow_add-size c = let t = ten (length c.args.bins.now) (omega arith) in omega arith

pub loop-bin-init : goal.loop-bin-init
loop-bin-init c =
    let t = ten (length c.args.bins.now) (omega arith) in
    let f = file-length c.args.bins.now in
    (omega arith, omega arith)

pub overflow_add-size-in-loop-bin : goal.overflow_add-size-in-loop-bin
unfolding most_bins
overflow_add-size-in-loop-bin c = let t = ten c.from.result (omega arith) in omega arith

pub loop-bin-preserved : goal.loop-bin-preserved
loop-bin-preserved c =
    let t = ten c.from.result (omega arith) in
    let turn = size-turn c.args.bins.now c.loop-bin.bin-index c.from.result c.loop-bin-test.true c.from.ensures in
    (omega arith, omega arith)

pub returns : goal.returns
returns c =
    let e = ap length (no-bytes-left c.args.bins.now c.loop-bin.bin-index c.loop-bin-test.false) in omega arith
