-- For speed alone: the single-copy component at a whole count and its window mass, with its lobe's and its shelf's logs
-- at hand.
-- Nothing here has to be held beside the Rust: proofs/Ready.antt shows it equal to Shelves.antt and Masses.antt.
-- Definitions only. Assumes nothing.
use Rattle.std.specs.Prelude.{ℕ, true, List, get_or, Float, Option, None, Some}
use Rattle.std.specs.Float.{inf}
use Rattle.routines.specs.Ops.{◌⊕◌}
use Rattle.helpers.specs.LogSums.{lse2_of}
use Rattle.helpers.specs.Masses.{shelf_mass_of}
use Rattle.helpers.specs.declared.shelves.ShelfLogs.{ShelfLogs}
use Rattle.helpers.specs.declared.shelves.Shelf.{Shelf}

abbrev pub mix_at_of : Float → ℕ → Option Shelf → ShelfLogs → List Float → Float
mix_at_of lobe n None logs table = lobe
mix_at_of lobe n (Some s) logs table = lse2_of (logs.rest ⊕ lobe) (logs.share ⊕ get_or table n (inf true))

abbrev pub mix_mass_of : Float → Option Shelf → ShelfLogs → List Float → ℕ → Float
mix_mass_of lobe None logs table top = lobe
mix_mass_of lobe (Some s) logs table top = lse2_of (logs.rest ⊕ lobe) (logs.share ⊕ shelf_mass_of table top)
