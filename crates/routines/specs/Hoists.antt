-- For speed alone: lgamma where the logarithm is at hand.
-- Nothing here has to be held beside docs/ROUTINES.md: `lgamma-with-is` in proofs/Logarithms.antt shows it equal to
-- lgamma.
-- Definitions only. Assumes nothing.
use Rattle.std.specs.Prelude.{cond, Float}
use Rattle.std.specs.Float.Ieee.{lt}
use Rattle.routines.specs.Constants.{four}
use Rattle.routines.specs.Lgamma.{lgamma_of, stirling_with}

-- `log` stands for ln x, and is read from 4 on alone
unfoldable pub lgamma_with : Float → Float → Float
lgamma_with x log = cond (lt x four) (lgamma_of x) (stirling_with x log)
