-- A record ends in its last line, which is the selected fit's. Assumes nothing.
use Prim.Native.Nat.{ℕ}
use mathlib.Core.Path.{◌≡◌, refl, ap, ◌∙◌}
use mathlib.Core.List.{List, [], ◌∷◌, ◌++◌, append_assoc}
use Rattle.std.specs.Prelude.{Option, None, Some}
use Rattle.fitter.specs.Selection.{select_of}
use Rattle.fitter.specs.declared.asking.Asked.{Asked}
use Rattle.fitter.specs.declared.attempts.FitAttempt.{FitAttempt}
use Rattle.models.specs.declared.fit.SpectrumFit.{SpectrumFit}
use Rattle.record.specs.Fits.{fit_text}
use Rattle.record.specs.Record.{found_text, leaning_text, last_of, last_text}
use Rattle.record.specs.Record.{chosen_of, chosen_text, selected_text, attempts_text, head_text, record_of}
use Rattle.record.specs.declared.answers.Last.{Last}
use Rattle.record.specs.declared.records.Recorded.{Recorded}

-- what stands in front of the last line of the selected fit
abbrev in_front : Asked → List FitAttempt → Option SpectrumFit → List ℕ
in_front asked attempts (Some fit) =
    let x = chosen_of asked attempts fit in
    fit_text fit ++ (found_text asked.budget fit x.cutoffs x.answer ++ leaning_text x.leaning)
in_front asked attempts None = []

selected-ends : (asked : Asked) (attempts : List FitAttempt) (s : Option SpectrumFit)
    → selected_text asked attempts s ≡ in_front asked attempts s ++ last_text (last_of asked s)
unfolding selected_text chosen_text chosen_of
selected-ends asked attempts (Some fit) = simp append_assoc
selected-ends asked attempts None = refl

-- what was recorded, by its two parts
pub recorded : (r : Recorded) (size : ℕ) (last : Last) → r.size ≡ size → r.last ≡ last
    → r ≡ record { size = size; last = last }
recorded r size last p q =
    ap (λ (n : ℕ). record { size = n; last = r.last }) p ∙ ap (λ (l : Last). record { size = size; last = l }) q

pub record Ends (text last : List ℕ) : Type 0 where
  pub front : List ℕ
  pub whole : text ≡ front ++ last

pub record-ends : (asked : Asked) (bins : ℕ) (a b c d : FitAttempt)
    → Ends (record_of asked bins a b c d) (last_text (last_of asked (select_of (a ∷ b ∷ c ∷ d ∷ []))))
unfolding record_of
record-ends asked bins a b c d =
    let attempts = a ∷ b ∷ c ∷ d ∷ [] in
    let s = select_of attempts in
    record {
      front =
          head_text asked bins
          ++ (attempts_text a b c d asked.budget ++ in_front asked attempts s);
      whole = rw (selected-ends asked attempts s) (simp append_assoc);
    }
