-- `models::spectra::full_total` meets its contract. Assumes nothing.
use mathlib.Core.Path.{refl}
use native.Mathlib.Omega.{arith}
use lib.Ieee.{neg, of_bits}
use Rattle.meaning.proofs.Loops.{begins, goes_on, ends}
use Rattle.models.specs.Spectra.{full_total_of}
use Rattle.models.proofs.spectra.full_total.Goals as goal

pub loop-n-init : goal.loop-n-init
unfolding neg of_bits
loop-n-init c = begins _ _ _ _ _ (omega arith) refl

pub loop-n-preserved : goal.loop-n-preserved
loop-n-preserved c = goes_on _ _ _ _ c.loop-n.invariant _ (omega arith) refl

pub returns : goal.returns
unfolding full_total_of
returns c = ends _ _ _ _ c.loop-n.invariant (omega arith)
