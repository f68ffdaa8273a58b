-- For speed alone: a slice in which ln n and lgamma(n + 1) may stand ready, at 2 n and behind it, for n from 0 on.
-- What is not there is worked out; over the empty slice each of these is the plain form (proofs/Ready.antt).
-- Definitions only. Assumes nothing.
use Rattle.std.specs.Prelude.{ℕ, ◌+◌, ◌*◌, List, get_or, Float}
use Rattle.routines.specs.Constants.{one}
use Rattle.routines.specs.Hoists.{lgamma_with}
use Rattle.routines.specs.Lgamma.{lgamma_of}
use Rattle.routines.specs.Ln.{ln_of}
use Rattle.routines.specs.Ops.{◌⊕◌, of_count}

unfoldable pub ln_at : List Float → ℕ → Float
ln_at ready n = get_or ready (2 * n) (ln_of (of_count n))

unfoldable pub gamma_at : List Float → ℕ → Float
gamma_at ready n = get_or ready (2 * n + 1) (lgamma_of (of_count n ⊕ one))

-- with `log` for ln(n + 1)
unfoldable pub gamma_with : List Float → ℕ → Float → Float
gamma_with ready n log = get_or ready (2 * n + 1) (lgamma_with (of_count n ⊕ one) log)
