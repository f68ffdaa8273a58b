-- `record::leaning::leaning_of` meets its contract. Assumes nothing.
use Rattle.record.proofs.Leanings.{Leant}
use Rattle.record.proofs.leaning.leaning_of.Given as goal

abbrev pub invariant-loop-attempt : goal.invariant-loop-attempt
invariant-loop-attempt l = Leant l.budget l.answer l.fn.attempts l.l l.attempt-index
