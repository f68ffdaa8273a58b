-- How C has a cutoff. Definitions only. Assumes nothing.
use Rattle.std.specs.Prelude.{ℕ, Option, unwrap_or}
use Rattle.meaning.specs.Numbers as number
use Rattle.meaning.specs.Reply.{Reply, refuse, broken, give}
use Rattle.models.specs.Cutoffs.{Sureness, sure, not_sure, no_walk}
use Rattle.exports.specs.declared.flat_cutoffs.FlatCutoff.{FlatCutoff}
use Rattle.exports.specs.declared.flat_cutoffs.FlatSureCutoff.{FlatSureCutoff}

-- a cutoff is 2 at least (`hole-cutoff-range` of crates/models), so 0 stands for none
abbrev pub or_zero : Option ℕ → ℕ
or_zero c = unwrap_or c 0

-- the number, 0 for an answer; the cutoff, 0 for a refusal
abbrev pub say_cutoff : Reply (Option ℕ) → FlatCutoff
say_cutoff (refuse n) = record { number = n; cutoff = 0 }
say_cutoff (broken place) = record { number = number.broken_file; cutoff = 0 }
say_cutoff (give c) = record { number = 0; cutoff = or_zero c }

abbrev pub say_sure : Reply Sureness → FlatSureCutoff
say_sure (refuse n) = record { number = n; walk = 0; sure = 0; cutoff = 0 }
say_sure (broken place) = record { number = number.broken_file; walk = 0; sure = 0; cutoff = 0 }
say_sure (give (sure c)) = record { number = 0; walk = 1; sure = 1; cutoff = or_zero c }
say_sure (give (not_sure c)) = record { number = 0; walk = 1; sure = 0; cutoff = or_zero c }
say_sure (give no_walk) = record { number = 0; walk = 0; sure = 0; cutoff = 0 }

-- a floor is always there
abbrev pub say_floor : Reply ℕ → FlatCutoff
say_floor (refuse n) = record { number = n; cutoff = 0 }
say_floor (broken place) = record { number = number.broken_file; cutoff = 0 }
say_floor (give c) = record { number = 0; cutoff = c }
