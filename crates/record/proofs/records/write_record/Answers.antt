-- `record::records::write_record` meets its contract. Assumes nothing.
use Rattle.templates.proofs.Cuts.{joined}
use Rattle.record.specs.Record.{record_of}
use Rattle.record.proofs.Theorems.{recorded}
use Rattle.record.proofs.records.write_record.Goals as goal

pub returns : goal.returns
unfolding record_of
returns c =
    let s = rw c.select_fit-selected.ensures at c.put_selected.ensures in
    let p = joined _ _ _ _ _ _ _ _ (c.put_head-first.ensures.value, c.put_head-first.ensures.out_after)
    (joined _ _ _ _ _ _ _ _ (c.put_attempts-second.ensures.value, c.put_attempts-second.ensures.out_after) (s.size_value, s.out_after)) in
    record { result_value = recorded _ _ _ p.0 s.last_value; out_after = p.1 }
