-- `models::window_masses::masses_at` meets its contract. Assumes nothing.
use Rattle.helpers.proofs.Growths.{kept-after}
use Rattle.models.specs.Hoists.{masses_at}
use Rattle.models.proofs.window_masses.masses_at.Goals as goal

pub returns : goal.returns
unfolding masses_at
returns c = record {
  value =
      rw (c.mix_mass-single.ensures, c.lobe_masses-lobes.ensures.value, c.window_mass_with-error.ensures)
      (rw (c.ln_at-log.ensures, c.count.ensures));
  kept = rw c.lobe_masses-lobes.ensures.kept_after (kept-after _ _ _ _);
}
