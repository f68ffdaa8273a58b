-- For speed alone: the walk's probabilities, from what does not change with the count. Nothing here has to be held
-- beside the Rust: `probability-is` in proofs/Walks.antt shows that it changes no number. Definitions only. Assumes
-- nothing.
use Rattle.std.specs.Prelude.{ℕ, Float}
use Rattle.routines.specs.Exp.{exp_of}
use Rattle.routines.specs.Ops.{of_count}
use Rattle.helpers.specs.SingleCopies.{single_density_of}
use Rattle.helpers.specs.declared.single_copies.SingleCopy.{SingleCopy}

-- `probability_in` of the fit that `single` was made of
abbrev pub probability_of : SingleCopy → ℕ → Float
probability_of single c = exp_of (single_density_of single (of_count c))
