-- `models::modes::error_mode` meets its contract. Assumes nothing.
use mathlib.Core.Path.{◌≡◌, ap, ◌∙◌}
use Prim.Native.Nat.{ℕ}
use Rattle.meaning.specs.Reply.{Reply, give, chain}
use Rattle.meaning.proofs.Says.{handed_on}
use Rattle.helpers.specs.WindowEnds.{window_end_of}
use Rattle.helpers.proofs.WindowEnds.{window_refused, window_given, window_count}
use Rattle.models.specs.Modes.{scanned, highest_of, error_mode_of}
use Rattle.models.specs.declared.fit.SpectrumFit.{SpectrumFit}
use Rattle.models.specs.declared.modes.Standing.{Standing}
use Rattle.models.proofs.modes.error_mode.Goals as goal

-- what stands behind the window's tests
behind : (fit : SpectrumFit) (end : ℕ) (best : Standing) (reply : Reply ℕ) → give end ≡ window_end_of fit.fit_window_end
    → best ≡ highest_of fit.error_params end → reply ≡ chain (scanned best.nan) (give best.count) → reply ≡ error_mode_of fit
unfolding error_mode_of
behind fit end best reply given b e =
    let top = fit.fit_window_end in
    let there : best ≡ highest_of fit.error_params top = b ∙ ap (highest_of fit.error_params) (window_count top end given) in
    e ∙ ap (λ (s : Standing). chain (scanned s.nan) (give s.count)) there
    ∙ window_given (give (highest_of fit.error_params top).count) (scanned (highest_of fit.error_params top).nan) top end given

pub returns-in_err-end : goal.returns-in_err-end
unfolding error_mode_of
returns-in_err-end c =
    handed_on _ _ c.from_residual.ensures.1
    ∙ window_refused _ (scanned (highest_of c.args.fit.error_params c.args.fit.fit_window_end).nan) _ _ c.in_err-end.ensures

pub returns-then-best : goal.returns-then-best
returns-then-best c =
    behind c.args.fit _ _ _ (c.in_ok-end.ensures) (c.highest-best.ensures ∙ ap (highest_of c.args.fit.error_params) c.count.ensures)
    (rw c.if-best.true)

pub returns : goal.returns
returns c =
    behind c.args.fit _ _ _ (c.in_ok-end.ensures) (c.highest-best.ensures ∙ ap (highest_of c.args.fit.error_params) c.count.ensures)
    (rw c.if-best.false)
