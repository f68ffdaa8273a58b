-- What a fit holds that is no number, as numbers, and back. Definitions only. Assumes nothing.
use Rattle.std.specs.Prelude.{ℕ, cond, eqb, Float, Option, None, Some}
use Rattle.routines.specs.Constants.{zero}
use Rattle.helpers.specs.declared.shelves.Shelf.{Shelf}
use Rattle.models.specs.declared.families.ErrorModel.{ErrorModel}
use Rattle.models.specs.declared.families.ErrorModel.TheVariants.{FreeSingletonWeibull, SingletonPareto}
use Rattle.models.specs.declared.families.GenomeModel.{GenomeModel}
use Rattle.models.specs.declared.families.GenomeModel.TheVariants.{NegativeBinomial, ShelfNegativeBinomial}

-- ---- the families: 0 is the first case, any other number the second
abbrev pub error_number : ErrorModel → ℕ
error_number FreeSingletonWeibull = 0
error_number SingletonPareto = 1

abbrev pub genome_number : GenomeModel → ℕ
genome_number NegativeBinomial = 0
genome_number ShelfNegativeBinomial = 1

abbrev pub error_of : ℕ → ErrorModel
error_of n = cond (eqb n 0) FreeSingletonWeibull SingletonPareto

abbrev pub genome_of : ℕ → GenomeModel
genome_of n = cond (eqb n 0) NegativeBinomial ShelfNegativeBinomial

-- ---- the parts: a presence of 0 says that the numbers beside it are not there; they are 0 then
abbrev pub shape_there : Option Float → ℕ
shape_there None = 0
shape_there (Some x) = 1

abbrev pub shape_number : Option Float → Float
shape_number None = zero
shape_number (Some x) = x

abbrev pub shape_of : ℕ → Float → Option Float
shape_of present x = cond (eqb present 0) None (Some x)

abbrev pub shelf_there : Option Shelf → ℕ
shelf_there None = 0
shelf_there (Some s) = 1

abbrev pub shelf_held : Option Shelf → Shelf
shelf_held None = record { share = zero; alpha = zero; beta = zero }
shelf_held (Some s) = s

abbrev pub shelf_from : ℕ → Shelf → Option Shelf
shelf_from present s = cond (eqb present 0) None (Some s)
