-- `record::records::put_answer` meets its contract. Assumes nothing.
use mathlib.Core.Path.{◌∙◌}
use Rattle.record.proofs.Flags.{flag_number}
use Rattle.record.specs.Record.{answer_text}
use Rattle.record.proofs.records.put_answer.Goals as goal

pub returns : goal.returns
unfolding answer_text
returns c =
    let hole = c.from.ensures ∙ flag_number c.args.a.hole in
    let below = c.from-2.ensures ∙ flag_number c.args.a.below in
    let f = rw (hole, below, c.least_numbers-least.ensures) at c.fill.ensures in
    record { value = f.value; out_after = f.out_after }
