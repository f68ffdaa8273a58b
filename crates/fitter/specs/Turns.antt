-- The two passes over a run table, one run at a time: what a scan over a slice of run structs goes through. Its answer
-- is the attempt of specs/Attempting.antt (`ends`, proofs/Turned.antt). Definitions only. Assumes nothing.
use Rattle.std.specs.Prelude.{ℕ, ◌+◌, Bool, true, false, cond, List, [], ltb, eqb, length, Float}
use Rattle.models.specs.Families.{list_length_of}
use Rattle.meaning.specs.Answers.{reply_of}
use Rattle.meaning.specs.Onward.{onward, number_said}
use Rattle.meaning.specs.Reply.{Reply, refuse, broken, give}
use Rattle.fitter.specs.Attempting.{stands_from}
use Rattle.fitter.specs.Retrying.{table_from, retry_step}
use Rattle.fitter.specs.Settling.{settle_of, with_held}
use Rattle.fitter.specs.Surveys.{no_survey, survey_step}
use Rattle.fitter.specs.declared.runs.Run.{Run}
use Rattle.fitter.specs.declared.settling.Settled.{Settled}
use Rattle.models.specs.declared.problems.Problem.{Problem}
use Rattle.fitter.specs.declared.surveys.Survey.{Survey}
use Rattle.fitter.specs.declared.turns.Turns.{Turns}

-- as the code holds it, with the reply that the first pass settled to
pub record Turned : Type 0 where
  pub next : ℕ
  pub runs : ℕ
  pub surveyed : Bool
  pub survey : Survey
  pub settled : Reply Settled

abbrev pub turned_of : Turns → Turned
turned_of t = record {
  next = t.next;
  runs = t.runs;
  surveyed = t.surveyed;
  survey = t.survey;
  settled = reply_of t.settled;
}

-- what is read off the reply
abbrev pub unsettled_in : Reply Settled → Bool
unsettled_in (refuse n) = false
unsettled_in (broken place) = false
unsettled_in (give s) = s.unsettled

-- over no runs; no list is looked at
unfoldable pub empty_settled : List ℕ → Problem → ℕ → Reply Settled
empty_settled bins setup room = settle_of bins setup 0 no_survey [] room

-- before the first turn; over no runs there is none
abbrev pub begin_of : List ℕ → Problem → ℕ → ℕ → Turned
begin_of bins setup runs room = record {
  next = 0;
  runs = runs;
  surveyed = eqb runs 0;
  survey = no_survey;
  settled = empty_settled bins setup room;
}

-- ---- the first pass
abbrev pub second_from : Bool → ℕ → ℕ
second_from unsettled runs = cond unsettled 0 runs

abbrev pub gone_on : Survey → Turned → Turned
gone_on survey t = record {
  next = t.next + 1;
  runs = t.runs;
  surveyed = false;
  survey = survey;
  settled = t.settled;
}

abbrev pub settled_to : Survey → Reply Settled → ℕ → Turned
settled_to survey settled runs = record {
  next = second_from (unsettled_in settled) runs;
  runs = runs;
  surveyed = true;
  survey = survey;
  settled = settled;
}

unfoldable pub first_turn : List ℕ → Problem → List Float → ℕ → Run → Turned → Turned
first_turn bins setup lists room run t =
    let survey =
    survey_step (length lists) (list_length_of setup.error setup.genome) t.next run t.survey in
    cond (ltb (t.next + 1) t.runs) (gone_on survey t)
    (settled_to survey (settle_of bins setup t.runs survey lists room) t.runs)

-- from where on the shelf's table stands as found, by the turn's answer: only the settling writes
abbrev pub first_stands : Problem → Turned → ℕ
first_stands setup r = cond r.surveyed (stands_from setup (number_said r.settled)) 0

-- ---- the second pass
abbrev pub second_turn : List ℕ → Problem → List Float → ℕ → Run → Turned → Turned
second_turn bins setup lists room run t = record {
  next = t.next + 1;
  runs = t.runs;
  surveyed = true;
  survey = t.survey;
  settled = onward (λ (s : Settled). with_held s (retry_step bins setup lists room t.next run s.held)) t.settled;
}

-- ---- a turn of either
unfoldable pub turn_of : List ℕ → Problem → List Float → ℕ → Run → Turned → Turned
turn_of bins setup lists room run t =
    cond t.surveyed (second_turn bins setup lists room run t) (first_turn bins setup lists room run t)

abbrev pub turn_stands : Problem → Turned → Turned → ℕ
turn_stands setup t r = cond t.surveyed (table_from setup) (first_stands setup r)
