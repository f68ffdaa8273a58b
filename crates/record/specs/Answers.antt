-- The answer of a pick: the smaller of the valley and the hole cutoff, 2 at least, and none where the hole cutoff is none.
-- The hole cutoff is the largest that keeps the budget, so a smaller one keeps it too (`cutoff-keeps` in
-- proofs/Backed.antt). And the last line, which is a cutoff only where a theorem backs it. Definitions only. Assumes
-- nothing.
use Rattle.std.specs.Prelude.{ℕ, min, max, Bool, true, false, cond, ◌&&◌, eqb, ltb, leb, Float}
use Rattle.std.specs.Float.Ieee.{lt}
use Rattle.routines.specs.Ops.{◌⊘◌}
use Rattle.models.specs.ClaimsCutoff.{running}
use Rattle.models.specs.Cutoffs.{probability_in, allowed_of}
use Rattle.models.specs.declared.fit.SpectrumFit.{SpectrumFit}
use Rattle.record.specs.declared.answers.Answer.{Answer}
use Rattle.record.specs.declared.answers.Last.{Last}
use Rattle.record.specs.declared.answers.Last.TheVariants as last
use Rattle.record.specs.declared.attempt_lines.Cutoffs.{Cutoffs}
use Rattle.record.specs.declared.values.HowSure.{HowSure}
use Rattle.record.specs.declared.values.HowSure.TheVariants as how
use Rattle.record.specs.declared.values.Place.{Place}
use Rattle.record.specs.declared.values.Place.TheVariants.{Nothing, At, Unknown}

-- ---- the answer
unfoldable pub smaller_of : ℕ → ℕ → ℕ
smaller_of valley hole = max (min valley hole) 2

abbrev pub answer_place : ℕ → Place → Place
answer_place valley Nothing = Nothing
answer_place valley (At c) = At (smaller_of valley c)
answer_place valley Unknown = Unknown

-- the hole decides: it lies under the valley, or is no count
abbrev pub by_hole : ℕ → Place → Bool
by_hole valley Nothing = true
by_hole valley (At c) = ltb c valley
by_hole valley Unknown = true

-- the answer is a count under the error floor
abbrev pub is_under : ℕ → Place → Bool
is_under count Nothing = false
is_under count (At f) = ltb count f
is_under count Unknown = false

abbrev pub is_below : Place → Place → Bool
is_below Nothing floor = false
is_below (At c) floor = is_under c floor
is_below Unknown floor = false

unfoldable pub answer_of : ℕ → Cutoffs → Answer
answer_of valley c =
    let place = answer_place valley c.hole.place in
    record { place = place; hole = by_hole valley c.hole.place; below = is_below place c.floor }

-- ---- at 2, the least cutoff
-- what it removes: the walk's f64 sum through count 1
abbrev pub least_removed : SpectrumFit → Float
least_removed fit = running (probability_in fit) 1

-- 0 the answer is not 2; 1 the walk went on behind count 1, so the budget is kept; 2 it stopped there, so it is broken
unfoldable pub least_at : ℕ → Float → Float → ℕ
least_at count allowed removed = cond (eqb count 2) (cond (lt allowed removed) 2 1) 0

abbrev pub least_kind : Place → Float → Float → ℕ
least_kind Nothing allowed removed = 0
least_kind (At c) allowed removed = least_at c allowed removed
least_kind Unknown allowed removed = 0

-- how many times the budget is what 2 removes
abbrev pub least_times : SpectrumFit → Float → Float
least_times fit budget = least_removed fit ⊘ allowed_of fit budget

-- ---- the last line
-- 3 or more, and under the error floor: 2 is the least cutoff, and under every floor
abbrev pub from_three : Place → Bool
from_three Nothing = false
from_three (At c) = leb 3 c
from_three Unknown = false

abbrev pub is_low : Answer → Bool
is_low a = a.below && from_three a.place

-- of a hole that is sure: unless the errors there are as high as the genome, a theorem backs the answer
unfoldable pub backed_by : Answer → Last
backed_by a = cond (is_low a) (last.Unsure a.place) (last.Cutoff a.place)

-- nothing backs it where demand 3's premise does not hold, or there is no walk
abbrev pub last_in : HowSure → Answer → Last
last_in how.Sure a = backed_by a
last_in how.NotFinite a = last.Unsure a.place
last_in how.NotProbable a = last.Unsure a.place
last_in how.NoWalk a = last.Unsure a.place
last_in (how.Refused n) a = last.Refused n
last_in how.NoFit a = last.NoFit

-- its word, and what stands behind that
abbrev pub last_number : Last → ℕ
last_number (last.Cutoff place) = 0
last_number (last.Unsure place) = 1
last_number last.NoFit = 2
last_number (last.Refused n) = 3

abbrev pub last_place : Last → Place
last_place (last.Cutoff place) = place
last_place (last.Unsure place) = place
last_place last.NoFit = Unknown
last_place (last.Refused n) = At n
