-- For speed alone: the two lobes of one dispersion, and their window masses in one loop.
-- Nothing here has to be held beside the Rust: proofs/Ready.antt shows it equal to Masses.antt. Definitions only.
-- Assumes nothing.
use Rattle.std.specs.Prelude.{ℕ, ◌+◌, cond, List, Float}
use Rattle.routines.specs.Constants.{one}
use Rattle.routines.specs.Ops.{◌⊕◌, ◌⊖◌, of_count}
use Rattle.helpers.specs.Hoists.{lobe_of, density_of}
use Rattle.helpers.specs.Kept.{growth_of}
use Rattle.helpers.specs.Masses.{recurrence}
use Rattle.helpers.specs.Prepared.{ln_at}
use Rattle.helpers.specs.declared.hoists.Lobe.{Lobe}
use Rattle.helpers.specs.declared.pairs.Lobes.{Lobes}
use Rattle.helpers.specs.declared.pairs.LobeMasses.{LobeMasses}

abbrev pub lobes_of : Float → Float → Float → Lobes
lobes_of mean other dispersion = record { first = lobe_of mean dispersion; second = lobe_of other dispersion }

-- from a count's term to the next one's, with `log` for ln(count + 1)
unfoldable pub ratio_with : Lobe → Float → Float → Float
ratio_with l growth log = cond l.poisson (growth ⊖ log) (growth ⊖ log ⊕ l.slope)

abbrev pub lobe_ratio : Lobe → List Float → ℕ → Float
lobe_ratio l ready count = ratio_with l (growth_of l (of_count count)) (ln_at ready (count + 1))

unfoldable pub lobe_mass_of : Lobe → List Float → ℕ → Float
lobe_mass_of l ready top = (recurrence (lobe_ratio l ready) (density_of l one) top).0

abbrev pub lobe_masses_of : Lobe → Lobe → List Float → ℕ → LobeMasses
lobe_masses_of l k ready top = record { first = lobe_mass_of l ready top; second = lobe_mass_of k ready top }
