-- The densities of a shelf and of the single-copy component, with what does not change worked out before, are the
-- densities. Assumes nothing.
use mathlib.Core.Path.{◌≡◌, refl}
use lib.Ieee.{Float}
use Rattle.routines.specs.Constants.{one}
use Rattle.routines.specs.Lgamma.{lgamma_of}
use Rattle.routines.specs.Ops.{◌⊕◌}
use Rattle.helpers.specs.Hoists.{lobe_of, density_of, density_with}
use Rattle.helpers.specs.Lobes.{ln_dnbinom_of}
use Rattle.helpers.specs.Shelves.{ln_dbetabinom_of, ln_single_copy_of}
use Rattle.helpers.specs.SingleCopies.{beta_binomial_of, beta_density_of, single_copy_of, single_density_with}
use Rattle.helpers.specs.SingleCopies.{single_density_of}
use Rattle.helpers.proofs.Densities.{density-is}
use Rattle.std.specs.Prelude.{Option, None, Some}
use Rattle.helpers.specs.declared.shelves.Shelf.{Shelf}

pub lobe-density-is : (x mean dispersion : Float)
    → density_with (lobe_of mean dispersion) x (lgamma_of (x ⊕ one)) ≡ ln_dnbinom_of x mean dispersion
unfolding density_of density_with
lobe-density-is x mean dispersion = density-is x mean dispersion

pub beta-density-is : (x trials alpha beta : Float)
    → beta_density_of (beta_binomial_of trials alpha beta) x (lgamma_of (x ⊕ one)) ≡ ln_dbetabinom_of x trials alpha beta
unfolding beta_density_of ln_dbetabinom_of
beta-density-is x trials alpha beta = refl

pub single-density-is : (x mean dispersion : Float) (shelf : Option Shelf)
    → single_density_of (single_copy_of mean dispersion shelf) x ≡ ln_single_copy_of x mean dispersion shelf
unfolding single_density_of single_density_with single_copy_of ln_single_copy_of
single-density-is x mean dispersion None = lobe-density-is x mean dispersion
single-density-is x mean dispersion (Some s) = rw (lobe-density-is x mean dispersion, beta-density-is)
