-- The density with what does not change worked out before is the density. Assumes nothing.
use mathlib.Core.Path.{◌≡◌, refl}
use mathlib.Core.Bool.{Bool, true, false, cond}
use mathlib.Core.List.{List}
use lib.Ieee.{Float, le, neg}
use Rattle.routines.specs.Lgamma.{lgamma_of}
use Rattle.routines.specs.Ln.{ln_of}
use Rattle.routines.specs.Constants.{one}
use Rattle.routines.specs.Ops.{◌⊕◌, ◌⊖◌, ◌⊗◌}
use Rattle.helpers.specs.Lobes.{size_of, log_q_of, ln_dpois_of, ln_dnbinom_of, nearly_poisson}
use Rattle.helpers.specs.Hoists.{lobe_of, density_of, poisson_of, binomial_of, shelf_logs_of, mix_entry_of}
use Rattle.helpers.specs.Shelves.{mix_single_copy_of}
use Rattle.std.specs.Prelude.{Option, None, Some}
use Rattle.helpers.specs.declared.shelves.Shelf.{Shelf}

pub density-is : (x mean dispersion : Float) → density_of (lobe_of mean dispersion) x ≡ ln_dnbinom_of x mean dispersion
unfolding lobe_of density_of ln_dnbinom_of ln_dpois_of
density-is x mean dispersion = go (le dispersion nearly_poisson)
  where
    go : (b : Bool) → density_of (cond b (poisson_of mean) (binomial_of mean dispersion)) x
        ≡ cond b (ln_dpois_of x mean) (lgamma_of (x ⊕ size_of mean dispersion) ⊖ lgamma_of (x ⊕ one) ⊖ lgamma_of (size_of mean dispersion) ⊕ size_of mean dispersion ⊗ neg (ln_of dispersion) ⊕ x ⊗ log_q_of dispersion)
    go true = refl
    go false = refl

-- and so is the single-copy component with its shelf's logs
pub mix-entry-is : (lobe count : Float) (shelf : Option Shelf) (table : List Float) → mix_entry_of lobe count shelf (shelf_logs_of shelf) table ≡ mix_single_copy_of lobe count shelf table
unfolding mix_single_copy_of
mix-entry-is lobe count None table = refl
mix-entry-is lobe count (Some s) table = refl
