-- `templates::puts::put_text` meets its contract. Assumes nothing.
use Rattle.templates.proofs.Cuts.{Putting}
use lib.ListN.{drop}
use Rattle.templates.proofs.puts.put_text.Given as goal

abbrev pub invariant-loop-byte : goal.invariant-loop-byte
invariant-loop-byte l = Putting l.at l.text l.initial.out l.end (drop l.byte-index l.text) l.out
