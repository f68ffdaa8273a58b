-- `models::cutoffs::hole_cutoff_sure` meets its contract. The second clause follows from the first. Assumes nothing.
use mathlib.Core.List.{[]}
use mathlib.Core.Path.{◌≡◌, sym, ◌∙◌}
use lib.Ieee.{Float}
use Rattle.meaning.specs.Reply.{Reply}
use Rattle.meaning.proofs.Says.{handed_as}
use Rattle.helpers.proofs.WindowEnds.{window_refused, window_given, window_count}
use Rattle.models.specs.ClaimsCutoff.{DemandedSure}
use Rattle.models.specs.Cutoffs.{Sureness, sure_says, hole_cutoff_sure_of}
use Rattle.models.specs.declared.fit.SpectrumFit.{SpectrumFit}
use Rattle.models.proofs.HoleCutoffs.{sure-keeps}
use Rattle.models.proofs.cutoffs.hole_cutoff_sure.Goals as goal

both : (fit : SpectrumFit) (budget : Float) (reply : Reply Sureness) → reply ≡ hole_cutoff_sure_of fit budget
    → record { result_value : reply ≡ hole_cutoff_sure_of fit budget; demanded_sure : DemandedSure fit budget reply }
both fit budget reply e = record {
  result_value = e;
  demanded_sure = λ answer gave. sure-keeps fit budget answer (sym e ∙ gave);
}

pub returns-in_err-end : goal.returns-in_err-end
unfolding hole_cutoff_sure_of
returns-in_err-end c =
    both c.args.fit c.args.budget _
    (handed_as sure_says _ _ c.from_residual.ensures.1 ∙ window_refused _ [] _ _ c.in_err-end.ensures)

pub returns-then-not-walk_starts : goal.returns-then-not-walk_starts
unfolding hole_cutoff_sure_of
returns-then-not-walk_starts c =
    let started = sym c.walk_starts.ensures ∙ c.if-not-walk_starts.true in
    both c.args.fit c.args.budget _ (rw started (window_given _ [] _ _ c.in_ok-end.ensures))

pub hole_walk-found-requires : goal.hole_walk-found-requires
hole_walk-found-requires c = window_count _ _ c.in_ok-end.ensures

pub is_sure-requires : goal.is_sure-requires
is_sure-requires c = window_count _ _ c.in_ok-end.ensures

pub returns-then-is_sure : goal.returns-then-is_sure
unfolding hole_cutoff_sure_of
returns-then-is_sure c =
    let started = sym c.walk_starts.ensures ∙ c.if-not-walk_starts.false in
    let known = sym c.is_sure.ensures ∙ c.if-is_sure.true in
    both c.args.fit c.args.budget _
    (rw (started, known, c.hole_walk-found.ensures) (window_given _ [] _ _ c.in_ok-end.ensures))

pub returns : goal.returns
unfolding hole_cutoff_sure_of
returns c =
    let started = sym c.walk_starts.ensures ∙ c.if-not-walk_starts.false in
    let known = sym c.is_sure.ensures ∙ c.if-is_sure.false in
    both c.args.fit c.args.budget _
    (rw (started, known, c.hole_walk-found.ensures) (window_given _ [] _ _ c.in_ok-end.ensures))
