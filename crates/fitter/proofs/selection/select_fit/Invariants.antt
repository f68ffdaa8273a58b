-- `fitter::selection::select_fit` meets its contract. Assumes nothing.
use mathlib.Core.Path.{◌≡◌}
use lib.ListN.{take}
use Rattle.fitter.specs.Selection.{select_of}
use Rattle.fitter.proofs.selection.select_fit.Given as goal

-- the selection of those gone through
abbrev pub invariant-loop-attempt : goal.invariant-loop-attempt
invariant-loop-attempt l = l.best ≡ select_of (take l.attempt-index l.attempt-items)
