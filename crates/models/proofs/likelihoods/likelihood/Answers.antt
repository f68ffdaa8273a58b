-- `models::likelihoods::likelihood` meets its contract. Assumes nothing.
use mathlib.Core.Path.{refl, sym}
use native.Mathlib.Omega.{arith}
use lib.Ieee.{neg, of_bits}
use Rattle.meaning.proofs.Loops.{begins, goes_on, ends}
use Rattle.models.specs.Spectra.{over_observed}
use Rattle.models.specs.Hoists.{likelihood_at}
use Rattle.models.proofs.Points.{standing}
use Rattle.models.proofs.likelihoods.likelihood.Goals as goal

pub loop-i-init : goal.loop-i-init
unfolding neg of_bits
loop-i-init c = (standing _ _ c.ahead_of.ensures, begins _ _ _ _ _ (omega arith) refl)

pub loop-i-preserved : goal.loop-i-preserved
loop-i-preserved c =
    let inv = c.loop-i.invariant in
    let added = c.add_point-reached.ensures in
    (added.ahead_value_2, goes_on _ _ _ _ inv.1 _ (omega arith) (rw (sym c.recovered_at-n.ensures) added.total_value))

pub returns : goal.returns
unfolding likelihood_at over_observed
returns c = ends _ _ _ _ c.loop-i.invariant.1 (omega arith)
