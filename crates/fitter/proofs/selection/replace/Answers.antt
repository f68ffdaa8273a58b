-- `fitter::selection::replace` meets its contract. Assumes nothing.
use mathlib.Core.Bool.{Bool, true, false, ◌&&◌, false≢true}
use mathlib.Core.Path.{◌≡◌, refl, sym, ◌∙◌}
use Rattle.std.specs.Prelude.{Option, None, Some, is_some, unwrap_or}
use Rattle.models.specs.declared.fit.SpectrumFit.{SpectrumFit}
use Rattle.fitter.specs.Attempts.{valid_of}
use Rattle.fitter.specs.Selection.{wins_of, replace_of}
use Rattle.fitter.proofs.selection.replace.Goals as goal

there : (o : Option SpectrumFit) (fit : SpectrumFit) → is_some o ≡ true → o ≡ Some (unwrap_or o fit)
there None fit e = absurd (false≢true e)
there (Some x) fit e = refl

of-three : (a b c : Bool) → (a && b && c) ≡ true → b ≡ true
of-three true true c e = refl
of-three true false c e = absurd (false≢true e)
of-three false b c e = absurd (false≢true e)

pub returns-then-wins : goal.returns-then-wins
unfolding replace_of wins_of valid_of
returns-then-wins c =
    let w = sym c.wins.ensures ∙ c.if-wins.true in
    rw w (there c.args.next.candidate _ (of-three _ _ _ w))

pub returns : goal.returns
unfolding replace_of
returns c = rw (sym c.wins.ensures ∙ c.if-wins.false)
