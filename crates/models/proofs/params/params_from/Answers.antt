-- `models::params::params_from` meets its contract. Assumes nothing.
use mathlib.Core.Path.{ap, sym}
use Rattle.meaning.specs.Reply.{give}
use borrow.Author.Tests.{lt-ltb, le-ltb, eq-eqb, ne_eqb}
use Rattle.models.specs.Params.{params_answer_of}
use Rattle.models.proofs.params.params_from.Goals as goal

pub returns-then-peak-lt2 : goal.returns-then-peak-lt2
unfolding params_answer_of
returns-then-peak-lt2 c = simp (lt-ltb _ _ c.if-peak-lt2.true)

pub returns-then-peak-gt-MOST : goal.returns-then-peak-gt-MOST
unfolding params_answer_of
returns-then-peak-gt-MOST c = simp (le-ltb _ _ c.if-peak-lt2.false, lt-ltb _ _ c.if-peak-gt-MOST.true)

pub returns-then-theta-list_length : goal.returns-then-theta-list_length
unfolding params_answer_of
returns-then-theta-list_length c =
    let few = le-ltb _ _ c.if-peak-gt-MOST.false in
    simp (le-ltb _ _ c.if-peak-lt2.false, few, sym c.list_length.ensures, ne_eqb _ _ c.if-theta-list_length.true)

pub returns : goal.returns
unfolding params_answer_of
returns c =
    let few = le-ltb _ _ c.if-peak-gt-MOST.false in
    let listed = sym c.list_length.ensures in
    simp (le-ltb _ _ c.if-peak-lt2.false, few, listed, eq-eqb _ _ c.if-theta-list_length.false)
    (ap give c.decode.ensures)
