-- For speed alone: the density of a lobe and the mixture with a shelf, with what does not change with the count worked
-- out before.
-- Nothing here has to be held beside the Rust: `density-is` and `mix-entry-is` in proofs/Densities.antt show it equal
-- to Lobes.antt and Shelves.antt. Definitions only. Assumes nothing.
use Rattle.std.specs.Prelude.{true, false, cond, List, Float, Option, None, Some}
use Rattle.std.specs.Float.{inf}
use Rattle.std.specs.Float.Ieee.{neg, le}
use Rattle.routines.specs.Constants.{zero, one}
use Rattle.routines.specs.Lgamma.{lgamma_of}
use Rattle.routines.specs.Ln.{ln_of}
use Rattle.routines.specs.Ops.{◌⊕◌, ◌⊖◌, ◌⊗◌}
use Rattle.helpers.specs.LogSums.{lse2_of}
use Rattle.helpers.specs.Lobes.{nearly_poisson, size_of, log_q_of}
use Rattle.helpers.specs.Shelves.{entry_at_of}
use Rattle.helpers.specs.declared.hoists.Lobe.{Lobe}
use Rattle.helpers.specs.declared.shelves.ShelfLogs.{ShelfLogs}
use Rattle.helpers.specs.declared.shelves.Shelf.{Shelf}

-- ---- a lobe's density
abbrev pub poisson_of : Float → Lobe
poisson_of mean =
    record { poisson = true; mean = mean; rate = ln_of mean; size = zero; gamma = zero; start = zero; slope = zero }

-- with ln(p) and ln(1-p) at hand
abbrev pub binomial_with : Float → Float → Float → Float → Lobe
binomial_with mean dispersion log_p log_q =
    let r = size_of mean dispersion in
    record {
      poisson = false;
      mean = mean;
      rate = zero;
      size = r;
      gamma = lgamma_of r;
      start = r ⊗ log_p;
      slope = log_q;
    }

abbrev pub binomial_of : Float → Float → Lobe
binomial_of mean dispersion = binomial_with mean dispersion (neg (ln_of dispersion)) (log_q_of dispersion)

unfoldable pub lobe_of : Float → Float → Lobe
lobe_of mean dispersion = cond (le dispersion nearly_poisson) (poisson_of mean) (binomial_of mean dispersion)

unfoldable pub density_of : Lobe → Float → Float
density_of l x =
    cond l.poisson (x ⊗ l.rate ⊖ lgamma_of (x ⊕ one) ⊖ l.mean)
    (lgamma_of (x ⊕ l.size) ⊖ lgamma_of (x ⊕ one) ⊖ l.gamma ⊕ l.start ⊕ x ⊗ l.slope)

-- with lgamma(x + 1) at hand: `density_of l x` is `density_with l x (lgamma_of (x ⊕ one))`
unfoldable pub density_with : Lobe → Float → Float → Float
density_with l x gamma =
    cond l.poisson (x ⊗ l.rate ⊖ gamma ⊖ l.mean)
    (lgamma_of (x ⊕ l.size) ⊖ gamma ⊖ l.gamma ⊕ l.start ⊕ x ⊗ l.slope)

-- ---- the mixture, from the shelf's two logs
abbrev pub shelf_logs_of : Option Shelf → ShelfLogs
shelf_logs_of None = record { rest = zero; share = inf true }
shelf_logs_of (Some s) = record { rest = ln_of (one ⊖ s.share); share = ln_of s.share }

abbrev pub mix_entry_of : Float → Float → Option Shelf → ShelfLogs → List Float → Float
mix_entry_of lobe count None logs table = lobe
mix_entry_of lobe count (Some s) logs table = lse2_of (logs.rest ⊕ lobe) (logs.share ⊕ entry_at_of count table)
