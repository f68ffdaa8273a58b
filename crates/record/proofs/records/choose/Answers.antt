-- `record::records::choose` meets its contract. Assumes nothing.
use Rattle.record.specs.Record.{chosen_last, chosen_of}
use Rattle.record.proofs.records.choose.Goals as goal

pub returns : goal.returns
unfolding chosen_of chosen_last
returns c =
    let cutoffs = c.cutoffs_of-cutoffs.ensures in
    rw (c.last_in.ensures, c.leaning_of.ensures, c.vote.ensures, c.answer_of-answer.ensures, cutoffs)
