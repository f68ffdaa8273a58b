-- `helpers::pairs::lobe_masses_to` meets its contract: the terms of both lobes are added up side by side, and their
-- growths are kept. Assumes nothing.
use mathlib.Core.Path.{refl, ◌∙◌}
use native.Mathlib.Omega.{arith}
use lib.Ieee.{div, neg, of_bits}
use Rattle.meaning.proofs.Loops.{begins, goes_on, ends}
use Rattle.helpers.specs.Kept.{kept_after}
use Rattle.helpers.specs.Pairs.{lobe_mass_of}
use Rattle.helpers.proofs.Recurrences.{sum-begins, sum-goes-on, sum-ends}
use Rattle.helpers.proofs.pairs.lobe_masses_to.Goals as goal

pub loop-count-init : goal.loop-count-init
unfolding div neg of_bits
loop-count-init c =
    (sum-begins _ _ _ _ _ refl c.density-term.ensures, sum-begins _ _ _ _ _ refl c.density-other_term.ensures, begins _ _ 1 _ _ (omega arith) refl, refl)

pub loop-count-preserved : goal.loop-count-preserved
loop-count-preserved c =
    let turn = c.loop-count in
    let inv = turn.invariant in (
      sum-goes-on _ _ _ inv.0 _ _ (omega arith) c.lse2-total.ensures
          (rw (c.ratio_with-term.ensures, c.growth_of-growth.ensures, c.log_at-log.ensures)),
      sum-goes-on _ _ _ inv.1 _ _ (omega arith) c.lse2-other_total.ensures
          (rw (c.ratio_with-other_term.ensures, c.growth_of-other_growth.ensures, c.log_at-log.ensures)),
      goes_on _ _ 1 _ inv.2 _ (omega arith)
          (rw (c.keep-in-loop-count.ensures, c.keep.ensures, c.growth_of-growth.ensures, c.growth_of-other_growth.ensures)),
      c.keep-in-loop-count.auto.kept ∙ c.keep.auto.kept ∙ inv.3,
    )

pub returns : goal.returns
unfolding lobe_mass_of kept_after
returns c =
    let inv = c.loop-count.invariant in
    record {
      value = rw (sum-ends _ _ _ inv.0 (omega arith), sum-ends _ _ _ inv.1 (omega arith));
      kept_after = ends _ _ 1 _ inv.2 (omega arith);
    }
