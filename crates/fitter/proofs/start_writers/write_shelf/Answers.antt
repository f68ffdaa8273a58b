-- `fitter::start_writers::write_shelf` meets its contract. Assumes nothing.
use mathlib.Core.Path.{subst}
use mathlib.Core.List.{List}
use lib.Ieee.{Float, round, of_bits}
use Rattle.fitter.specs.Starts.{shelf_list, Wrote}
use Rattle.fitter.proofs.Parts.{shelf-part}
use Rattle.fitter.proofs.start_writers.write_shelf.Goals as goal

pub put-requires : goal.put-requires
unfolding shelf_list
put-requires c = c.requires

pub returns : goal.returns
unfolding round of_bits
returns c =
    let a = c.args in
    subst (λ (l : List Float). Wrote l c.put.result a.rest.now c.put.new.rest)
    (shelf-part a.share a.shape _ _ _ _ c.shelf_concentration_bounds-bounds.ensures c.logit-part.ensures
    c.logit-kept.ensures c.logit-narrow.ensures) c.put.ensures
