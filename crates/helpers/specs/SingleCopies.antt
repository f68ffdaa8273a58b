-- For speed alone: the densities of a shelf and of the single-copy component, with what does not change with the count
-- worked out before, and lgamma(x + 1), which every part has, once.
-- Nothing here has to be held beside the Rust: `beta-density-is` and `single-density-is` in proofs/SingleCopies.antt
-- show it equal to Shelves.antt. Definitions only. Assumes nothing.
use Rattle.std.specs.Prelude.{true, cond, Float, Option, None, Some}
use Rattle.std.specs.Float.{inf}
use Rattle.std.specs.Float.Ieee.{lt}
use Rattle.routines.specs.Constants.{one}
use Rattle.routines.specs.Lgamma.{lgamma_of}
use Rattle.routines.specs.Ops.{◌⊕◌, ◌⊖◌}
use Rattle.helpers.specs.Hoists.{lobe_of, density_with, shelf_logs_of}
use Rattle.helpers.specs.LogSums.{lse2_of}
use Rattle.helpers.specs.Shelves.{shelf_trials_of}
use Rattle.helpers.specs.declared.shelves.ShelfLogs.{ShelfLogs}
use Rattle.helpers.specs.declared.single_copies.BetaBinomial.{BetaBinomial}
use Rattle.helpers.specs.declared.single_copies.SingleCopy.{SingleCopy}
use Rattle.helpers.specs.declared.shelves.Shelf.{Shelf}

-- ---- a shelf's density; `gamma` stands for lgamma(x + 1)
abbrev pub beta_binomial_of : Float → Float → Float → BetaBinomial
beta_binomial_of trials alpha beta =
    record {
      trials = trials;
      alpha = alpha;
      beta = beta;
      all = lgamma_of (trials ⊕ one);
      spread = lgamma_of (trials ⊕ alpha ⊕ beta);
      shape = lgamma_of alpha ⊕ lgamma_of beta ⊖ lgamma_of (alpha ⊕ beta);
    }

unfoldable pub beta_density_of : BetaBinomial → Float → Float → Float
beta_density_of b x gamma =
    cond (lt b.trials x) (inf true)
    (b.all ⊖ gamma ⊖ lgamma_of (b.trials ⊖ x ⊕ one) ⊕ lgamma_of (x ⊕ b.alpha) ⊕ lgamma_of (b.trials ⊖ x ⊕ b.beta)
    ⊖ b.spread ⊖ b.shape)

-- ---- the single-copy component
abbrev pub beta_part_of : Float → Option Shelf → Option BetaBinomial
beta_part_of mean None = None
beta_part_of mean (Some s) = Some (beta_binomial_of (shelf_trials_of mean) s.alpha s.beta)

unfoldable pub single_copy_of : Float → Float → Option Shelf → SingleCopy
single_copy_of mean dispersion shelf =
    record { lobe = lobe_of mean dispersion; logs = shelf_logs_of shelf; beta = beta_part_of mean shelf }

abbrev pub mix_beta : Float → ShelfLogs → Option BetaBinomial → Float → Float → Float
mix_beta lobe logs None x gamma = lobe
mix_beta lobe logs (Some b) x gamma = lse2_of (logs.rest ⊕ lobe) (logs.share ⊕ beta_density_of b x gamma)

unfoldable pub single_density_with : SingleCopy → Float → Float → Float
single_density_with s x gamma = mix_beta (density_with s.lobe x gamma) s.logs s.beta x gamma

unfoldable pub single_density_of : SingleCopy → Float → Float
single_density_of s x = single_density_with s x (lgamma_of (x ⊕ one))
