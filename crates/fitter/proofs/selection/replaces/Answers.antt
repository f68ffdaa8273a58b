-- `fitter::selection::replaces` meets its contract. The code's 1e-9 is the `f64` nearest to it. Assumes nothing.
use mathlib.Core.Path.{◌≡◌, refl}
use lib.Ieee.{binary64, of_bits, round}
use Rattle.fitter.specs.Selection.{tolerance, replaces_of}
use Rattle.fitter.proofs.selection.replaces.Goals as goal

tolerance-is : tolerance ≡ of_bits binary64 0x3e112e0be826d695
unfolding of_bits round
tolerance-is = refl

pub returns : goal.returns
unfolding replaces_of
returns c = rw (tolerance-is, c.max.ensures, c.abs-2.ensures, c.abs.ensures)
