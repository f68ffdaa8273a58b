-- The lines of an attempt: its families, what speaks against it, its cost and BIC, what the search took, and the cutoffs of
-- its own fit. Definitions only. Assumes nothing.
use Rattle.std.specs.Prelude.{ℕ, List, [], ◌∷◌, ◌++◌, Float, Option, None, Some, is_some}
use Rattle.std.specs.Float.Ieee.{neg}
use Rattle.meaning.specs.Flags.{byte_of}
use Rattle.models.specs.HeightCutoffs.{crossover_of, error_floor_of}
use Rattle.fitter.specs.Attempts.{candidate_in}
use Rattle.fitter.specs.declared.attempts.FitAttempt.{FitAttempt}
use Rattle.models.specs.declared.fit.SpectrumFit.{SpectrumFit}
use Rattle.templates.specs.Filling.{filled_of}
use Rattle.record.specs.Lines.{lines_of}
use Rattle.routines.specs.Bits.{pattern_of}
use Rattle.models.specs.Parts.{error_number, genome_number}
use Rattle.record.specs.Values.{rejection_number, place_numbers, sure_number}
use Rattle.record.specs.Values.{no_hole, crossover_place, floor_place, hole_of}
use Rattle.record.specs.declared.values.Place.TheVariants.{Unknown}
use Rattle.record.specs.declared.attempt_lines.CutoffNumbers.{CutoffNumbers}
use Rattle.record.specs.declared.attempt_lines.Cutoffs.{Cutoffs}

-- ---- the cutoffs of an attempt's own fit, where it has one
abbrev pub no_cutoffs : Cutoffs
no_cutoffs = record { hole = no_hole; crossover = Unknown; floor = Unknown }

abbrev pub cutoffs_of : SpectrumFit → Float → Cutoffs
cutoffs_of fit budget =
    record {
      hole = hole_of fit budget;
      crossover = crossover_place (crossover_of fit);
      floor = floor_place (error_floor_of fit);
    }

abbrev pub own_cutoffs : Option SpectrumFit → Float → Cutoffs
own_cutoffs None budget = no_cutoffs
own_cutoffs (Some fit) budget = cutoffs_of fit budget

-- ---- the lines
-- what the marks of the lines `hole`, `crossover` and `error_floor` take
unfoldable pub cutoff_numbers : Cutoffs → CutoffNumbers
cutoff_numbers c =
    record {
      hole = place_numbers c.hole.place;
      how = sure_number c.hole.how;
      crossover = place_numbers c.crossover;
      floor = place_numbers c.floor;
    }

abbrev pub families_text : ℕ → FitAttempt → List ℕ
families_text k a =
    filled_of
    (lines_of
    ("attempt.#.error_model {FreeSingletonWeibull|SingletonPareto}"
    ∷ "attempt.#.genome_model {NegativeBinomial|ShelfNegativeBinomial}"
    ∷ "attempt.#.reason {valid|OptimisationFailed|NonFiniteLikelihood|InvalidComponents|InvalidWindowMass|ComponentMassExceeded|UnstableModeParameterisation|GenomeLobeOutsideFitWindow|ErrorModePastValley|PrimaryModeOutsideBand|RepeatModeTooEarly|PositiveLogLikelihood}"
    ∷ []))
    (k ∷ error_number a.error_model ∷ k ∷ genome_number a.genome_model
    ∷ k ∷ rejection_number a.rejection ∷ [])

-- the cost is what the log-likelihood was made of, with the other sign
abbrev pub costs_text : ℕ → FitAttempt → List ℕ
costs_text k a =
    let held = byte_of (is_some a.candidate) in
    let fit = candidate_in a in
    filled_of
    (lines_of
    ("attempt.#.cost {-|~}"
    ∷ "attempt.#.bic {-|~}"
    ∷ "attempt.#.total_iterations #"
    ∷ "attempt.#.capped_starts #"
    ∷ []))
    (k ∷ held ∷ pattern_of (neg fit.log_likelihood) ∷ k ∷ held ∷ pattern_of fit.bic
    ∷ k ∷ a.total_iterations ∷ k ∷ a.capped_starts ∷ [])

unfoldable pub own_cutoffs_text : ℕ → Cutoffs → List ℕ
own_cutoffs_text k c =
    let n = cutoff_numbers c in
    filled_of
    (lines_of
    ("attempt.#.hole {none|#|-}{ sure| unsure: the allowed share is not finite| unsure: a probability is not from 0 to 2| no walk| refused|}"
    ∷ "attempt.#.crossover {none|#|-}"
    ∷ "attempt.#.error_floor {none|#|-}"
    ∷ []))
    (k ∷ n.hole.part ∷ n.hole.at ∷ n.how ∷ k ∷ n.crossover.part ∷ n.crossover.at
    ∷ k ∷ n.floor.part ∷ n.floor.at ∷ [])

unfoldable pub attempt_text : ℕ → FitAttempt → Float → List ℕ
attempt_text k a budget = families_text k a ++ (costs_text k a ++ own_cutoffs_text k (own_cutoffs a.candidate budget))
