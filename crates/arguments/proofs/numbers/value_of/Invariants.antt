-- `arguments::numbers::value_of` meets its contract: at each turn the value of the rest, behind the value so far, is
-- that of the whole. Assumes nothing.
use mathlib.Core.Path.{◌≡◌}
use mathlib.Core.Bool.{true}
use lib.ListN.{drop}
use Rattle.listing.specs.Decimal.{value_of}
use Rattle.arguments.specs.Numbers.{all_digits}
use Rattle.arguments.proofs.numbers.value_of.Given as goal

abbrev pub invariant-loop-digit : goal.invariant-loop-digit
invariant-loop-digit l =
    (all_digits (drop l.digit-index l.digits) ≡ true) × (value_of l.value (drop l.digit-index l.digits) ≡ value_of l.first l.digits)
