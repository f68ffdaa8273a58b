-- The numbers that a record's marks take, for what is no number itself. Definitions only. Assumes nothing.
use Rattle.std.specs.Prelude.{ℕ, ◌+◌, cond, Float, Option, None, Some}
use Rattle.std.specs.Float.Ieee.Scale.{finite}
use Rattle.meaning.specs.Reply.{Reply, refuse, broken, give}
use Rattle.models.specs.Cutoffs.{Sureness, sure, not_sure, no_walk, allowed_of, hole_cutoff_sure_of}
use Rattle.fitter.specs.Validation.{reason_number}
use Rattle.fitter.specs.declared.rejections.FitRejection.{FitRejection}
use Rattle.models.specs.declared.fit.SpectrumFit.{SpectrumFit}
use Rattle.record.specs.declared.values.Hole.{Hole}
use Rattle.record.specs.declared.values.HowSure.{HowSure}
use Rattle.record.specs.declared.values.HowSure.TheVariants as how
use Rattle.record.specs.declared.values.Place.{Place}
use Rattle.record.specs.declared.values.Place.TheVariants as place
use Rattle.record.specs.declared.values.PlaceNumbers.{PlaceNumbers}

-- 0 where nothing speaks against the candidate, and else one more than the number of the reason
abbrev pub rejection_number : Option FitRejection → ℕ
rejection_number None = 0
rejection_number (Some r) = 1 + reason_number r

-- the part of `{none|#|-}`, and the count
abbrev pub place_numbers : Place → PlaceNumbers
place_numbers place.Nothing = record { part = 0; at = 0 }
place_numbers (place.At c) = record { part = 1; at = c }
place_numbers place.Unknown = record { part = 2; at = 0 }

abbrev pub sure_number : HowSure → ℕ
sure_number how.Sure = 0
sure_number how.NotFinite = 1
sure_number how.NotProbable = 2
sure_number how.NoWalk = 3
sure_number (how.Refused n) = 4
sure_number how.NoFit = 5

-- ---- a cutoff
abbrev pub place_in : Option ℕ → Place
place_in None = place.Nothing
place_in (Some c) = place.At c

abbrev pub crossover_place : Reply (Option ℕ) → Place
crossover_place (refuse n) = place.Unknown
crossover_place (broken at) = place.Unknown
crossover_place (give found) = place_in found

abbrev pub floor_place : Reply ℕ → Place
floor_place (refuse n) = place.Unknown
floor_place (broken at) = place.Unknown
floor_place (give c) = place.At c

-- ---- the hole cutoff, and how sure it is
abbrev pub no_hole : Hole
no_hole = record { place = place.Unknown; how = how.NoFit }

-- why it is not sure, where there is a walk
unfoldable pub why_not : Float → HowSure
why_not allowed = cond (finite allowed) how.NotProbable how.NotFinite

abbrev pub hole_in : HowSure → Reply Sureness → Hole
hole_in why (refuse n) = record { place = place.Unknown; how = how.Refused n }
hole_in why (broken at) = no_hole
hole_in why (give (sure found)) = record { place = place_in found; how = how.Sure }
hole_in why (give (not_sure found)) = record { place = place_in found; how = why }
hole_in why (give no_walk) = record { place = place.Nothing; how = how.NoWalk }

abbrev pub hole_of : SpectrumFit → Float → Hole
hole_of fit budget = hole_in (why_not (allowed_of fit budget)) (hole_cutoff_sure_of fit budget)
