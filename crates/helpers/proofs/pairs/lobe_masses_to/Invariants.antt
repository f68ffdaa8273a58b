-- `helpers::pairs::lobe_masses_to` meets its contract: the terms of both lobes are added up side by side, and their
-- growths are kept. Assumes nothing.
use mathlib.Core.Path.{◌≡◌}
use Prim.Native.Nat.{◌+◌}
use lib.ListN.{length}
use Rattle.meaning.proofs.Loops.{Folded}
use Rattle.routines.specs.Constants.{one}
use Rattle.helpers.specs.Hoists.{density_of}
use Rattle.helpers.specs.Kept.{keep_step}
use Rattle.helpers.specs.Pairs.{lobe_ratio}
use Rattle.helpers.proofs.Recurrences.{Summed}
use Rattle.helpers.proofs.pairs.lobe_masses_to.Given as goal

abbrev pub invariant-loop-count : goal.invariant-loop-count
invariant-loop-count l =
    Summed (lobe_ratio l.first l.ready) (density_of l.first one) l.top l.total l.term l.count
    × Summed (lobe_ratio l.second l.ready) (density_of l.second one) l.top l.other_total l.other_term l.count
    × Folded (keep_step l.first l.second) l.initial.kept 1 (l.top + 1) l.kept l.count
    × (length l.kept ≡ length l.initial.kept)
