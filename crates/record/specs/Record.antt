-- The record of a pick, and its last line. Definitions only. Assumes nothing.
use Rattle.std.specs.Prelude.{ℕ, cond, List, [], ◌∷◌, ◌++◌, eqb, Float, Option, None, Some}
use Rattle.meaning.specs.Flags.{byte_of}
use Rattle.models.specs.Cutoffs.{allowed_of}
use Rattle.fitter.specs.Selection.{select_of}
use Rattle.fitter.specs.declared.asking.Asked.{Asked}
use Rattle.fitter.specs.declared.attempts.FitAttempt.{FitAttempt}
use Rattle.models.specs.declared.fit.SpectrumFit.{SpectrumFit}
use Rattle.listing.specs.Listing.{ascii}
use Rattle.templates.specs.Cut.{end_at}
use Rattle.templates.specs.Filling.{filled_of}
use Rattle.record.specs.Answers.{answer_of, least_removed, least_kind, least_times, is_low, last_in, last_number}
use Rattle.record.specs.Answers.{last_place}
use Rattle.record.specs.Attempts.{attempt_text, cutoffs_of, cutoff_numbers}
use Rattle.record.specs.Fits.{fit_text}
use Rattle.record.specs.Heads.{asked_text, spectrum_text, refusal_text, place_text}
use Rattle.record.specs.Leaning.{NONE, NO_WALK, vote_of, leaning_of, unleant}
use Rattle.record.specs.Lines.{lines_of}
use Rattle.routines.specs.Bits.{pattern_of}
use Rattle.record.specs.Values.{place_numbers, sure_number}
use Rattle.record.specs.declared.answers.Answer.{Answer}
use Rattle.record.specs.declared.answers.Last.{Last}
use Rattle.record.specs.declared.answers.Last.TheVariants.{NoFit, Refused}
use Rattle.record.specs.declared.attempt_lines.Cutoffs.{Cutoffs}
use Rattle.record.specs.declared.leaning.Leaning.{Leaning}
use Rattle.record.specs.declared.records.Chosen.{Chosen}
use Rattle.record.specs.declared.records.LeastNumbers.{LeastNumbers}
use Rattle.record.specs.declared.records.Recorded.{Recorded}
use Rattle.record.specs.declared.values.HowSure.{HowSure}
use Rattle.record.specs.declared.values.Place.{Place}

-- ---- the cutoffs of the selected fit
unfoldable pub cutoff_text : Float → Cutoffs → List ℕ
cutoff_text share c =
    let n = cutoff_numbers c in
    filled_of
    (lines_of
    ("hole {none|#|-}{ sure| unsure: the allowed share is not finite| unsure: a probability is not from 0 to 2| no walk| refused|}"
    ∷ "allowed_share ~"
    ∷ "crossover {none|#|-}"
    ∷ "error_floor {none|#|-}"
    ∷ []))
    (n.hole.part ∷ n.hole.at ∷ n.how ∷ pattern_of share
    ∷ n.crossover.part ∷ n.crossover.at ∷ n.floor.part ∷ n.floor.at ∷ [])

-- ---- the answer, and what speaks against it
unfoldable pub least_numbers : SpectrumFit → Float → Place → LeastNumbers
least_numbers fit budget answer =
    record {
      kind = least_kind answer (allowed_of fit budget) (least_removed fit);
      times = pattern_of (least_times fit budget);
    }

unfoldable pub answer_text : SpectrumFit → Float → Answer → List ℕ
answer_text fit budget a =
    let least = least_numbers fit budget a.place in
    filled_of
    (lines_of
    ("answer {valley|hole}{|" ∷ "below floor}{|" ∷ "least_cutoff kept|" ∷ "least_cutoff broken ~}" ∷ []))
    (byte_of a.hole ∷ byte_of a.below ∷ least.kind ∷ least.times ∷ [])

unfoldable pub doubts_text : HowSure → Answer → List ℕ
doubts_text how a =
    filled_of
    (lines_of
    ("{|doubt.share it is not finite"
    ∷ "|doubt.probability one is not from 0 to 2"
    ∷ "|doubt.walk there is none, so no cutoff is known to keep the budget"
    ∷ "}{|doubt.floor the answer lies under it"
    ∷ [])
    ++ ascii "}")
    (sure_number how ∷ byte_of (is_low a) ∷ [])

unfoldable pub found_text : Float → SpectrumFit → Cutoffs → Answer → List ℕ
found_text budget fit c a =
    cutoff_text (allowed_of fit budget) c ++ (answer_text fit budget a ++ doubts_text c.hole.how a)

-- ---- how far it can be leant on
-- 0 for a count, 1 for none, 2 where no valid attempt has a walk
unfoldable pub end_part : Leaning → ℕ → ℕ
end_part l v = cond (eqb l.least NO_WALK) 2 (byte_of (eqb v NONE))

unfoldable pub leaning_text : Leaning → List ℕ
leaning_text l =
    filled_of
    (lines_of
    ("valid_attempts #"
    ∷ "same_hole #"
    ∷ "least_hole {#|none|-}"
    ∷ "largest_hole {#|none|-}"
    ∷ []))
    (l.valid ∷ l.same ∷ end_part l l.least ∷ l.least ∷ end_part l l.largest ∷ l.largest ∷ [])

-- ---- the last line
unfoldable pub chosen_last : Asked → SpectrumFit → Last
chosen_last asked fit = let c = cutoffs_of fit asked.budget in last_in c.hole.how (answer_of asked.valley c)

abbrev pub last_of : Asked → Option SpectrumFit → Last
last_of asked None = NoFit
last_of asked (Some fit) = chosen_last asked fit

unfoldable pub last_text : Last → List ℕ
last_text l =
    let place = place_numbers (last_place l) in
    filled_of (lines_of ("{cutoff |unsure |no fit|refused }{none|#|}" ∷ [])) (last_number l ∷ place.part ∷ place.at ∷ [])

-- ---- the selected fit's lines, or none, and the last
unfoldable pub chosen_of : Asked → List FitAttempt → SpectrumFit → Chosen
chosen_of asked attempts fit =
    let budget = asked.budget in
    let c = cutoffs_of fit budget in
    record {
      cutoffs = c;
      answer = answer_of asked.valley c;
      leaning = leaning_of budget (vote_of c.hole) attempts unleant;
      last = chosen_last asked fit;
    }

unfoldable pub chosen_text : Float → SpectrumFit → Chosen → List ℕ
chosen_text budget fit x =
    fit_text fit
    ++ (found_text budget fit x.cutoffs x.answer ++ (leaning_text x.leaning ++ last_text x.last))

unfoldable pub selected_text : Asked → List FitAttempt → Option SpectrumFit → List ℕ
selected_text asked attempts None = last_text NoFit
selected_text asked attempts (Some fit) = chosen_text asked.budget fit (chosen_of asked attempts fit)

-- ---- the whole
-- how many bytes a record takes in so many lent ones, and its last line
abbrev pub recorded_of : List ℕ → Last → ℕ → Recorded
recorded_of text last room = record { size = end_at 0 text room; last = last }

unfoldable pub attempts_text : FitAttempt → FitAttempt → FitAttempt → FitAttempt → Float → List ℕ
attempts_text a b c d budget =
    attempt_text 1 a budget ++ (attempt_text 2 b budget ++ (attempt_text 3 c budget ++ attempt_text 4 d budget))

unfoldable pub head_text : Asked → ℕ → List ℕ
head_text asked bins = asked_text asked ++ spectrum_text asked bins

unfoldable pub record_of : Asked → ℕ → FitAttempt → FitAttempt → FitAttempt → FitAttempt → List ℕ
record_of asked bins a b c d =
    let attempts = a ∷ b ∷ c ∷ d ∷ [] in
    head_text asked bins
    ++ (attempts_text a b c d asked.budget ++ selected_text asked attempts (select_of attempts))

-- of a spectrum that is refused by number, and of a file that is refused at a place
unfoldable pub refused_of : Asked → ℕ → ℕ → List ℕ
refused_of asked bins n = head_text asked bins ++ (refusal_text n ++ last_text (Refused n))

unfoldable pub broken_of : Asked → ℕ → List ℕ
broken_of asked place = asked_text asked ++ (refusal_text 3 ++ (place_text place ++ last_text (Refused 3)))
