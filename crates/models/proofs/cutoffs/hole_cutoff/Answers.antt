-- `models::cutoffs::hole_cutoff` meets its contract. The second clause follows from the first. Assumes nothing.
use Prim.Native.Nat.{ℕ}
use mathlib.Core.List.{[]}
use mathlib.Core.Path.{◌≡◌, sym, ◌∙◌}
use lib.Ieee.{Float}
use Rattle.std.specs.Prelude.{Option}
use Rattle.meaning.specs.Reply.{Reply}
use Rattle.meaning.proofs.Says.{handed_on}
use Rattle.helpers.proofs.WindowEnds.{window_refused, window_given, window_count}
use Rattle.models.specs.ClaimsCutoff.{Demanded}
use Rattle.models.specs.Cutoffs.{hole_cutoff_of}
use Rattle.models.specs.declared.fit.SpectrumFit.{SpectrumFit}
use Rattle.models.proofs.HoleCutoffs.{hole-cutoff-keeps}
use Rattle.models.proofs.cutoffs.hole_cutoff.Goals as goal

both : (fit : SpectrumFit) (budget : Float) (reply : Reply (Option ℕ)) → reply ≡ hole_cutoff_of fit budget
    → record { result_value : reply ≡ hole_cutoff_of fit budget; demanded : Demanded fit budget reply }
both fit budget reply e = record {
  result_value = e;
  demanded = λ s answer gave. hole-cutoff-keeps fit budget s answer (sym e ∙ gave);
}

pub returns-in_err-end : goal.returns-in_err-end
unfolding hole_cutoff_of
returns-in_err-end c =
    both c.args.fit c.args.budget _ (handed_on _ _ c.from_residual.ensures.1 ∙ window_refused _ [] _ _ c.in_err-end.ensures)

pub returns-then-not-walk_starts : goal.returns-then-not-walk_starts
unfolding hole_cutoff_of
returns-then-not-walk_starts c =
    let started = sym c.walk_starts.ensures ∙ c.if-not-walk_starts.true in
    both c.args.fit c.args.budget _ (rw started (window_given _ [] _ _ c.in_ok-end.ensures))

pub hole_walk-requires : goal.hole_walk-requires
hole_walk-requires c = window_count _ _ c.in_ok-end.ensures

pub returns : goal.returns
unfolding hole_cutoff_of
returns c =
    let started = sym c.walk_starts.ensures ∙ c.if-not-walk_starts.false in
    both c.args.fit c.args.budget _ (rw (started, c.hole_walk.ensures) (window_given _ [] _ _ c.in_ok-end.ensures))
