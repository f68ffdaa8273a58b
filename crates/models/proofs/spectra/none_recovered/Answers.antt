-- `models::spectra::none_recovered` meets its contract. Assumes nothing.
use mathlib.Core.Path.{refl, ◌∙◌}
use Prim.Native.Nat.{ℕ}
use native.Mathlib.Omega.{arith}
use lib.Dec.{eqb}
use borrow.Author.Rules.{rules}
use borrow.Author.Tests.{tests}
use Rattle.std.proofs.lemmas.Iterator.{YieldsList-from_range}
use Rattle.std.proofs.lemmas.Iterator.Search.{all_from_yields_List}
use Rattle.models.specs.Spectra.{recovered_at}
use Rattle.models.proofs.Loops.{all-counts}
use Rattle.models.proofs.spectra.none_recovered.Goals as goal

pub returns : goal.returns
returns c =
    let a = c.args in
    all_from_yields_List (λ (i : ℕ). eqb (recovered_at a.bins.now a.scale i) 0) _ _ _ c.all.ensures.ran
    (YieldsList-from_range 0 a.top a.top refl (omega arith))
    (λ x b q k. search (rules, tests))
    ∙ all-counts _ a.top
