-- How many coordinates a point has, 7 to 11, and how many numbers the simplexes of many runs. Assumes nothing.
use Prim.Native.Nat.{◌≤◌}
use lib.Dec.{lit≤}
use Rattle.models.specs.Families.{list_length_of}
use Rattle.models.specs.declared.families.ErrorModel.{ErrorModel}
use Rattle.models.specs.declared.families.ErrorModel.TheVariants.{FreeSingletonWeibull, SingletonPareto}
use Rattle.models.specs.declared.families.GenomeModel.{GenomeModel}
use Rattle.models.specs.declared.families.GenomeModel.TheVariants.{NegativeBinomial, ShelfNegativeBinomial}

pub few-wide : (error : ErrorModel) (genome : GenomeModel) → list_length_of error genome ≤ 11
few-wide FreeSingletonWeibull NegativeBinomial = lit≤ tt
few-wide FreeSingletonWeibull ShelfNegativeBinomial = lit≤ tt
few-wide SingletonPareto NegativeBinomial = lit≤ tt
few-wide SingletonPareto ShelfNegativeBinomial = lit≤ tt

pub some-wide : (error : ErrorModel) (genome : GenomeModel) → 7 ≤ list_length_of error genome
some-wide FreeSingletonWeibull NegativeBinomial = lit≤ tt
some-wide FreeSingletonWeibull ShelfNegativeBinomial = lit≤ tt
some-wide SingletonPareto NegativeBinomial = lit≤ tt
some-wide SingletonPareto ShelfNegativeBinomial = lit≤ tt
