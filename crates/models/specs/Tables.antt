-- The shelf's table in a lent slice. Definitions only. Assumes nothing.
use Rattle.std.specs.Prelude.{ℕ, List, [], Float, Option, None, Some}
use Rattle.meaning.specs.Lent.{on_give}
use Rattle.helpers.specs.Shelves.{shelf_log_table_of}
use Rattle.models.specs.Masses.{entries_of}
use Rattle.helpers.specs.declared.shelves.Shelf.{Shelf}

-- the entries as a slice of `room` holds them: all, and none where they do not fit. No call that refuses 5 and 10 meets
-- the latter (`entries_fit`, proofs/Filled.antt)
unfoldable pub entries_in : Option Shelf → Float → ℕ → ℕ → List Float
entries_in None mean end room = []
entries_in (Some s) mean end room = on_give (shelf_log_table_of mean end room) (entries_of (Some s) mean end) []
