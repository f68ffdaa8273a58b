-- `replay::words::same` meets its contract. Assumes nothing.
use mathlib.Core.Path.{sym, subst, ◌∙◌}
use mathlib.Core.Logic.{inl, inr}
use borrow.Author.Tests.{eqb-true}
use lib.Dec.{T}
use lib.Ieee.Compare.{differs_from_itself}
use Rattle.replay.proofs.words.same.Goals as goal

pub returns-then-ours-eq-NAN : goal.returns-then-ours-eq-NAN
returns-then-ours-eq-NAN c = λ h. inr (c.if-ours-eq-NAN.true, sym c.float-y.ensures ∙ differs_from_itself _ (subst T (sym h) tt))

pub returns : goal.returns
returns c = λ h. inl (eqb-true _ _ h)
