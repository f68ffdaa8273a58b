-- How far the answer can be leant on: how many of the valid attempts give the same hole cutoff, sure or not, and from which
-- to which the cutoffs of the valid ones go. None counts as above every cutoff. An attempt without a walk has no cutoff, and
-- agrees only with an answer without one. Definitions only. Assumes nothing.
use Rattle.std.specs.Prelude.{ℕ, ◌+◌, Bool, true, false, cond, List, [], ◌∷◌, eqb, ltb, Float}
use Rattle.fitter.specs.Attempts.{valid_of, candidate_in}
use Rattle.fitter.specs.declared.attempts.FitAttempt.{FitAttempt}
use Rattle.record.specs.Values.{hole_of}
use Rattle.record.specs.declared.values.Hole.{Hole}
use Rattle.record.specs.declared.values.HowSure.{HowSure}
use Rattle.record.specs.declared.values.HowSure.TheVariants as how
use Rattle.record.specs.declared.values.Place.{Place}
use Rattle.record.specs.declared.values.Place.TheVariants as place
use Rattle.record.specs.declared.leaning.Leaning.{Leaning}

-- above every cutoff, and no cutoff at all
abbrev pub NONE : ℕ
NONE = 65536

abbrev pub NO_WALK : ℕ
NO_WALK = 65537

abbrev pub is_walked : HowSure → Bool
is_walked how.Sure = true
is_walked how.NotFinite = true
is_walked how.NotProbable = true
is_walked how.NoWalk = false
is_walked (how.Refused n) = true
is_walked how.NoFit = true

abbrev pub count_vote : Place → ℕ
count_vote place.Nothing = NONE
count_vote (place.At c) = c
count_vote place.Unknown = NONE

unfoldable pub vote_of : Hole → ℕ
vote_of h = cond (is_walked h.how) (count_vote h.place) NO_WALK

-- no attempt yet
abbrev pub unleant : Leaning
unleant = record { valid = 0; same = 0; least = NO_WALK; largest = 0 }

unfoldable pub least_of : ℕ → ℕ → ℕ
least_of a b = cond (ltb b a) b a

unfoldable pub largest_of : ℕ → ℕ → ℕ
largest_of a b = cond (ltb a b) (cond (eqb b NO_WALK) a b) a

-- one valid attempt more, which votes v
unfoldable pub leant_on : ℕ → Leaning → ℕ → Leaning
leant_on answer l v =
    record {
      valid = l.valid + 1;
      same = cond (eqb v answer) (l.same + 1) l.same;
      least = least_of l.least v;
      largest = largest_of l.largest v;
    }

unfoldable pub lean_step : Float → ℕ → Leaning → FitAttempt → Leaning
lean_step budget answer l attempt =
    cond (valid_of attempt) (leant_on answer l (vote_of (hole_of (candidate_in attempt) budget))) l

unfoldable pub leaning_of : Float → ℕ → List FitAttempt → Leaning → Leaning
leaning_of budget answer [] l = l
leaning_of budget answer (a ∷ attempts) l = leaning_of budget answer attempts (lean_step budget answer l a)
