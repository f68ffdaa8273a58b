-- `histogram::reader::hand_over` meets its contract: what is checked is held, and copied where it fits.
-- Assumes nothing.
use Prim.Native.Nat.{◌≤◌}
use mathlib.Core.Path.{refl, sym, ap, ◌∙◌}
use native.Mathlib.Omega.{arith}
use lib.ListN.{length}
use lib.Seq.{length-take-le}
use Rattle.meaning.specs.Reply.{give}
use Rattle.histogram.proofs.Rooms.{no_room, has_room, error-handed, error-counted, error-laid}
use Rattle.histogram.proofs.reader.hand_over.Goals as goal

pub returns-in_err-read_bins : goal.returns-in_err-read_bins
returns-in_err-read_bins c =
    let bins = c.args.bins.now in
    rw (sym c.in_err-read_bins.ensures) record {
      result_value = error-handed _ _ c.from_residual.ensures.1 ∙ sym (error-counted (length bins) _);
      bins_after = sym (error-laid (length bins) _ bins);
    }

pub returns-then-bins-n : goal.returns-then-bins-n
returns-then-bins-n c =
    let held : c.args.n ≤ length c.read_bins.new.held = omega arith in
    let none = no_room (length c.args.bins.now) c.args.n c.read_bins.new.held held c.if-bins-n.true in
    rw (sym c.in_ok-read_bins.ensures, none) record {
      result_value = refl;
      bins_after = refl;
    }

pub returns : goal.returns
returns c =
    let held : c.args.n ≤ length c.read_bins.new.held = omega arith in
    let all = has_room (length c.args.bins.now) c.args.n c.read_bins.new.held held c.if-bins-n.false in
    rw (sym c.in_ok-read_bins.ensures, all) record {
      result_value = ap give (sym (length-take-le c.args.n c.read_bins.new.held held));
      bins_after = c.copy_bins.ensures;
    }
