-- `fitter::shares::share` meets its contract. Assumes nothing.
use mathlib.Core.Path.{refl, ◌∙◌}
use lib.Ieee.{of_bits, round}
use Rattle.fitter.specs.Shares.{clamp_of}
use Rattle.fitter.proofs.ShareTests.{empty-lobe, full-lobe}
use Rattle.fitter.proofs.shares.share.Goals as goal

pub returns-then-lobe : goal.returns-then-lobe
returns-then-lobe c = empty-lobe _ _ _ _ c.mass-lobe.ensures _ (unfold of_bits round in refl) c.if-lobe.true

pub returns : goal.returns
unfolding clamp_of
returns c =
    c.clamp.ensures.value
    ∙ full-lobe _ _ _ _ c.mass-lobe.ensures _ _ _ c.mass-doubled.ensures
    (unfold of_bits round in refl) (unfold of_bits round in refl) c.if-lobe.false
