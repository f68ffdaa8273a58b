-- Closed cases on either side of each limit of the answer: (how sure the hole is, its cutoff, the error floor) beside a
-- valley, and the last line. Assumes nothing.
use Prim.Native.Nat.{ℕ}
use mathlib.Core.Path.{◌≡◌, refl}
use mathlib.Core.List.{[], ◌∷◌}
use Rattle.record.specs.Answers.{smaller_of, answer_of, backed_by, last_in}
use Rattle.record.specs.declared.answers.Last.{Last}
use Rattle.record.specs.declared.answers.Last.TheVariants as last
use Rattle.record.specs.declared.attempt_lines.Cutoffs.{Cutoffs}
use Rattle.record.specs.declared.values.HowSure.{HowSure}
use Rattle.record.specs.declared.values.HowSure.TheVariants.{Sure, NotFinite, NotProbable, NoWalk, Refused}
use Rattle.record.specs.declared.values.HowSure.TheVariants.{NoFit}
use Rattle.record.specs.declared.values.Place.{Place}
use Rattle.record.specs.declared.values.Place.TheVariants.{Nothing, At, Unknown}

abbrev line : ℕ → HowSure → Place → ℕ → Last
line valley how place floor =
    let c : Cutoffs = record { hole = record { place = place; how = how }; crossover = Unknown; floor = At floor } in
    last_in how (answer_of valley c)

-- the smaller of the two, 2 at least
pub answer-cases :
    (line 6 Sure (At 8) 2 ∷ line 7 Sure (At 6) 2 ∷ line 6 Sure (At 6) 2 ∷ line 0 Sure (At 8) 2 ∷ [])
    ≡ (last.Cutoff (At 6) ∷ last.Cutoff (At 6) ∷ last.Cutoff (At 6) ∷ last.Cutoff (At 2) ∷ [])
unfolding answer_of smaller_of backed_by
answer-cases = refl

-- under the error floor, at it, and 2 under it
pub floor-cases :
    (line 6 Sure (At 8) 7 ∷ line 6 Sure (At 8) 6 ∷ line 3 Sure (At 8) 4 ∷ line 2 Sure (At 8) 4 ∷ [])
    ≡ (last.Unsure (At 6) ∷ last.Cutoff (At 6) ∷ last.Unsure (At 3) ∷ last.Cutoff (At 2) ∷ [])
unfolding answer_of smaller_of backed_by
floor-cases = refl

-- sure and none; then a share that is not finite, a probability that is none, no walk, a refusal, no fit
pub kind-cases :
    (line 6 Sure Nothing 2 ∷ line 6 NotFinite (At 8) 2 ∷ line 6 NotProbable (At 4) 2 ∷ line 6 NoWalk Nothing 2
    ∷ line 6 (Refused 5) Unknown 2 ∷ line 6 NoFit Unknown 2 ∷ [])
    ≡ (last.Cutoff Nothing ∷ last.Unsure (At 6) ∷ last.Unsure (At 4) ∷ last.Unsure Nothing ∷ last.Refused 5
    ∷ last.NoFit ∷ [])
unfolding answer_of smaller_of backed_by
kind-cases = refl
