-- `models::height_cutoffs::crossover` meets its contract. Assumes nothing.
use Prim.Native.Nat.{ℕ}
use mathlib.Core.List.{[]}
use mathlib.Core.Path.{sym, ap, ◌∙◌}
use Rattle.meaning.proofs.Says.{handed_on}
use Rattle.routines.specs.Ops.{of_count}
use Rattle.helpers.proofs.WindowEnds.{window_refused, window_given, window_count}
use Rattle.models.specs.HeightTerms.{heights_of}
use Rattle.models.specs.HeightCutoffs.{crossing_of, crossover_ceiling, crossover_of}
use Rattle.models.proofs.HeightCutoffs.{crossing-of-terms}
use Rattle.models.proofs.height_cutoffs.crossover.Goals as goal

pub returns-in_err-end : goal.returns-in_err-end
unfolding crossover_of
returns-in_err-end c = handed_on _ _ c.from_residual.ensures.1 ∙ window_refused _ [] _ _ c.in_err-end.ensures

pub returns-then-not-crossover_starts : goal.returns-then-not-crossover_starts
unfolding crossover_of
returns-then-not-crossover_starts c =
    rw (sym c.crossover_starts.ensures ∙ c.if-not-crossover_starts.true) (window_given _ [] _ _ c.in_ok-end.ensures)

pub returns : goal.returns
unfolding crossover_of
returns c =
    let fit = c.args.fit in
    let top = c.crossover_ceiling-ceiling.ensures
    ∙ ap (crossover_ceiling fit.mean) (c.count.ensures ∙ window_count _ _ c.in_ok-end.ensures) in
    let found =
    c.crossing.ensures
    ∙ ap (crossing_of (λ (k : ℕ). heights_of c.height_terms.result (of_count k))) top
    ∙ crossing-of-terms fit _ c.height_terms.ensures _ in
    rw (sym c.crossover_starts.ensures ∙ c.if-not-crossover_starts.false, found) (window_given _ [] _ _ c.in_ok-end.ensures)
