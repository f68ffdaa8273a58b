-- How long a parameter list is, by its families. Definitions only. Assumes nothing.
use Rattle.std.specs.Prelude.{ℕ, ◌+◌}
use Rattle.models.specs.declared.families.ErrorModel.{ErrorModel}
use Rattle.models.specs.declared.families.ErrorModel.TheVariants.{FreeSingletonWeibull, SingletonPareto}
use Rattle.models.specs.declared.families.GenomeModel.{GenomeModel}
use Rattle.models.specs.declared.families.GenomeModel.TheVariants.{NegativeBinomial, ShelfNegativeBinomial}

abbrev pub parameter_count_of : ErrorModel → ℕ
parameter_count_of FreeSingletonWeibull = 7
parameter_count_of SingletonPareto = 6

abbrev pub extra_parameters_of : GenomeModel → ℕ
extra_parameters_of NegativeBinomial = 1
extra_parameters_of ShelfNegativeBinomial = 4

-- Weibull 8, Weibull with shelf 11, Pareto 7, Pareto with shelf 10
abbrev pub list_length_of : ErrorModel → GenomeModel → ℕ
list_length_of error genome = parameter_count_of error + extra_parameters_of genome
