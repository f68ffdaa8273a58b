-- `models::spectra::all_zero` meets its contract. Assumes nothing.
use mathlib.Core.Path.{◌∙◌}
use Prim.Native.Nat.{ℕ}
use lib.Dec.{eqb}
use borrow.Author.Rules.{rules}
use borrow.Author.Tests.{tests}
use Rattle.std.proofs.lemmas.Iterator.{YieldsList-from_slice}
use Rattle.std.proofs.lemmas.Iterator.Search.{all_from_yields_List}
use Rattle.models.proofs.Loops.{all-elements}
use Rattle.models.proofs.spectra.all_zero.Goals as goal

pub returns : goal.returns
returns c =
    let bins = c.args.bins.now in
    all_from_yields_List (λ (n : ℕ). eqb n 0) _ _ _ c.all.ensures.ran (YieldsList-from_slice bins cc)
    (λ x b q k. search (rules, tests))
    ∙ all-elements (λ (n : ℕ). eqb n 0) bins
