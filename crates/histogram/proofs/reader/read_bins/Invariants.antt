-- `histogram::reader::read_bins` meets its contract: at each turn the file from here on, with the bins held, means
-- what it meant from the first bin on. Assumes nothing.
use Prim.Native.Nat.{◌-◌}
use mathlib.Core.Path.{◌≡◌}
use mathlib.Core.List.{[]}
use lib.ListN.{take}
use Rattle.histogram.specs.File.{bins, read_from}
use Rattle.histogram.proofs.reader.read_bins.Given as goal

abbrev pub invariant-loop-slot : goal.invariant-loop-slot
invariant-loop-slot l =
    read_from (bins l.n []) l.file l.first ≡ read_from (bins (l.n - l.slot-index) (take l.slot-index l.slot-items)) l.file l.at
