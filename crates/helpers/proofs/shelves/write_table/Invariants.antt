-- `helpers::shelves::write_table` meets its contract. The loop's invariant: the first x entries are written, and
-- `entry` is entry x. Assumes nothing.
use mathlib.Core.Path.{◌≡◌}
use Rattle.meaning.specs.Over.{over}
use Rattle.helpers.specs.Shelves.{table_of, entry_of}
use Rattle.helpers.proofs.shelves.write_table.Given as goal

abbrev pub invariant-loop-x : goal.invariant-loop-x
invariant-loop-x l =
    (l.entry ≡ entry_of l.trials l.alpha l.beta l.x) × (l.place-items ≡ over (table_of l.trials l.alpha l.beta l.x) l.initial.place-items)
