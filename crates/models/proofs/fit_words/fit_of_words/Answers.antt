-- `models::fit_words::fit_of_words` meets its contract. Assumes nothing.
use Prim.Native.Nat.{ℕ}
use mathlib.Core.Path.{ap, ◌∙◌}
use lib.Ieee.{Float, nan}
use lib.ListN.{get_or}
use Rattle.helpers.specs.declared.shelves.Shelf.{Shelf}
use Rattle.models.specs.FitWords.{fit_with, fit_of_words}
use Rattle.models.specs.Parts.{error_of, genome_of, shape_of, shelf_from}
use Rattle.models.proofs.WordsBack.{same_parts}
use Rattle.models.proofs.fit_words.fit_of_words.Goals as goal

pub returns : goal.returns
unfolding fit_of_words fit_with
returns c =
    let x : ℕ → Float = λ i. get_or c.args.words.floats i nan in
    let held : Shelf = record { share = x 9; alpha = x 10; beta = x 11 } in
    same_parts c.args.words _ _ _ _ _ _ _ _
    (c.from-error.ensures ∙ ap error_of c.bit_of.ensures)
    (c.from-genome.ensures ∙ ap genome_of c.bit_of-2.ensures)
    (c.shape_of-shape.ensures ∙ ap (λ (k : ℕ). shape_of k (x 8)) c.bit_of-3.ensures)
    (c.shelf_from-shelf.ensures ∙ ap (λ (k : ℕ). shelf_from k held) c.bit_of-4.ensures)
