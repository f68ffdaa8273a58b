-- A value held to one side of a bound: the bound itself where the value is level with it, so no -0 against +0, and for
-- a NaN. Definitions only. Assumes nothing.
use Rattle.std.specs.Prelude.{cond, Float}
use Rattle.std.specs.Float.Ieee.{lt}

unfoldable pub at_least : Float → Float → Float
at_least v bound = cond (lt bound v) v bound

unfoldable pub at_most : Float → Float → Float
at_most v bound = cond (lt v bound) v bound
