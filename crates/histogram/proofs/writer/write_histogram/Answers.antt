-- `histogram::writer::write_histogram` meets its contract. Assumes nothing.
use Prim.Native.Nat.{ℕ, ◌^◌, ◌≤◌, ◌<◌}
use mathlib.Core.Path.{ap}
use native.Mathlib.Omega.{arith}
use lib.ListN.{length}
use Rattle.meaning.specs.Reply.{give}
use Rattle.histogram.specs.File.{most_bins, write_of}
use Rattle.histogram.proofs.Lists.{below_each}
use Rattle.histogram.proofs.Sizes.{file-within}
use Rattle.histogram.proofs.Refusals.{writes}
use Rattle.histogram.proofs.writer.write_histogram.Goals as goal
use Rattle.histogram.proofs.writer.write_histogram.Goals.{Joined-out-bins, then-out-bins+else-out-file_size, else-out-bins}

-- there is room for the longest file of so many bins, or for this one
room : (c : Joined-out-bins) → length (write_of c.args.bins.now) ≤ length c.args.out.now
unfolding most_bins
room c =
    let xs = c.args.bins.now in
    let l = file-within xs c.if-bins-gt-MAX_FILE_BINS.false (below_each (2 ^ 32) xs (λ (i : ℕ) (_ : i < length xs). (c.type_inv.bins i).fits)) in
    elim c.if-out-bins.branch [
      | then-out-bins+else-out-file_size w ↦ (rw w.file_size.ensures at w.if-out-file_size.false)
      | else-out-bins w ↦ omega arith
    ]

pub put_file-requires : goal.put_file-requires
put_file-requires c = room (goal.at.put_file-requires c).Joined-out-bins

pub returns : goal.returns
unfolding most_bins
returns c =
    let a = c.args in
    rw (writes a.bins.now (length a.out.now) c.if-bins-lt2.false c.if-bins-gt-MAX_FILE_BINS.false (room (goal.at.returns c).Joined-out-bins)) (record {
      result_value = ap give c.put_file.ensures.0;
      out_after = c.put_file.ensures.1;
    })
