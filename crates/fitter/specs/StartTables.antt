-- The two lent tables of error starts: rows of tail exponent, singleton probability and shape. Definitions only.
-- Assumes nothing.
use Rattle.std.specs.Prelude.{ℕ, ◌%◌, Bool, not, ◌||◌, List, [], ◌∷◌, eqb, Float, length}
use Rattle.meaning.specs.Numbers as number
use Rattle.meaning.specs.Reply.{Reply, refuse, give, Test, test, chain}
use Rattle.models.specs.declared.families.ErrorModel.{ErrorModel}
use Rattle.models.specs.declared.families.ErrorModel.TheVariants.{FreeSingletonWeibull, SingletonPareto}

-- the one of the two that belongs to the family
abbrev pub table_of : {T : Type 0} → ErrorModel → T → T → T
table_of FreeSingletonWeibull pareto weibull = weibull
table_of SingletonPareto pareto weibull = pareto

-- n numbers are not one or more rows of three
abbrev pub not_rows : ℕ → Bool
not_rows n = eqb n 0 || not (eqb (n % 3) 0)

-- 7: one of the two is of the wrong length, whichever family is asked
abbrev pub wrong_tables : ℕ → ℕ → List Test
wrong_tables pareto weibull = test (not_rows pareto) number.wrong_length ∷ test (not_rows weibull) number.wrong_length ∷ []

-- ---- what comes back of the two: a reference can't be a number, so an empty part, which no table is, says 7
abbrev pub part_says : List Float → Reply (List Float)
part_says [] = refuse number.wrong_length
part_says (x ∷ part) = give (x ∷ part)

unfoldable pub start_table_of : ErrorModel → List Float → List Float → Reply (List Float)
start_table_of error pareto weibull =
    chain (wrong_tables (length pareto) (length weibull)) (give (table_of error pareto weibull))
