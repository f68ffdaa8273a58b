-- `arguments::numbers::point_at` meets its contract. Assumes nothing.
use Rattle.std.proofs.Common.{rules, ◌∙◌, ℕ, ap, length}
use Rattle.std.proofs.lemmas.Iterator.{YieldsList-from_slice}
use Rattle.std.proofs.lemmas.Iterator.Adapters.{position_from-zero}
use Rattle.std.proofs.lemmas.Iterator.Search.{position_from_yields_List}
use Rattle.std.specs.Option.{unwrap_or}
use native.Mathlib.Nat.{zero-add}
use borrow.Author.Tests.{tests}
use lib.Dec.{eqb}
use Rattle.arguments.specs.Numbers.{point}
use Rattle.arguments.proofs.Words.{first-point}
use Rattle.arguments.proofs.numbers.point_at.Goals as goal

pub returns : goal.returns
returns c =
    let word = c.args.word.now in
    let test = λ (b : ℕ). eqb b point in
    c.unwrap_or.ensures
    ∙ ap (λ r. unwrap_or r (length word))
    (position_from_yields_List test _ _ _ c.position.ensures.ran (YieldsList-from_slice word cc) (λ x b q k. search (rules, tests))
    ∙ position_from-zero test word)
    ∙ (simp zero-add at (first-point 0 word))
