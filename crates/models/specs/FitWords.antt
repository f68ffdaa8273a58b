-- A fit as wholes and floats, and back: both families, both presences, the window end and the iterations; the floats in the
-- Rust's order. What is absent has zeros. Definitions only. Assumes nothing.
use Rattle.std.specs.Prelude.{ℕ, cond, List, [], ◌∷◌, eqb, Float, get_or, Option}
use Rattle.std.specs.Float.{nan}
use Rattle.models.specs.Parts.{error_number, genome_number, error_of, genome_of}
use Rattle.models.specs.Parts.{shape_there, shape_number, shape_of, shelf_there, shelf_held, shelf_from}
use Rattle.models.specs.declared.families.ErrorModel.{ErrorModel}
use Rattle.models.specs.declared.families.GenomeModel.{GenomeModel}
use Rattle.models.specs.declared.fit.SpectrumFit.{SpectrumFit}
use Rattle.models.specs.declared.fit_words.FitWords.{FitWords}
use Rattle.helpers.specs.declared.shelves.Shelf.{Shelf}

abbrev pub wholes_of : SpectrumFit → List ℕ
wholes_of f =
    error_number f.error_model ∷ genome_number f.genome_model
    ∷ shape_there f.error_params.weibull_shape ∷ shelf_there f.shelf
    ∷ f.fit_window_end ∷ f.best_iterations ∷ []

unfoldable pub floats_of : SpectrumFit → List Float
floats_of f =
    let e = f.error_params in
    let s = shelf_held f.shelf in
    let masses = f.component_log_window_masses in
    let totals = f.component_log_totals in
    f.w_error ∷ f.w_single ∷ f.w_repeat ∷ f.mean ∷ f.dispersion ∷ f.target_mode
    ∷ e.singleton_probability ∷ e.tail_exponent ∷ shape_number e.weibull_shape
    ∷ s.share ∷ s.alpha ∷ s.beta
    ∷ f.repeat_ratio ∷ f.genome_kmers ∷ f.error_kmers ∷ f.repeat_kmers
    ∷ f.log_likelihood ∷ f.bic ∷ f.deviance
    ∷ get_or masses 0 nan ∷ get_or masses 1 nan ∷ get_or masses 2 nan
    ∷ get_or totals 0 nan ∷ get_or totals 1 nan ∷ get_or totals 2 nan
    ∷ f.observed_total ∷ f.full_distinct_total ∷ []

abbrev pub fit_words_of : SpectrumFit → FitWords
fit_words_of f = record { wholes = wholes_of f; floats = floats_of f }

-- ---- and back: any whole but 0 is a second family, or a presence
abbrev pub bit_of : ℕ → ℕ
bit_of n = cond (eqb n 0) 0 1

-- with the families and parts at hand
unfoldable pub fit_with : FitWords → ErrorModel → GenomeModel → Option Float → Option Shelf → SpectrumFit
fit_with w error genome shape shelf =
    let n : ℕ → ℕ = λ i. get_or w.wholes i 0 in
    let x : ℕ → Float = λ i. get_or w.floats i nan in
    record {
      error_model = error;
      genome_model = genome;
      w_error = x 0;
      w_single = x 1;
      w_repeat = x 2;
      mean = x 3;
      dispersion = x 4;
      target_mode = x 5;
      error_params = record { singleton_probability = x 6; tail_exponent = x 7; weibull_shape = shape };
      shelf = shelf;
      repeat_ratio = x 12;
      genome_kmers = x 13;
      error_kmers = x 14;
      repeat_kmers = x 15;
      log_likelihood = x 16;
      bic = x 17;
      deviance = x 18;
      fit_window_end = n 4;
      best_iterations = n 5;
      component_log_window_masses = x 19 ∷ x 20 ∷ x 21 ∷ [];
      component_log_totals = x 22 ∷ x 23 ∷ x 24 ∷ [];
      observed_total = x 25;
      full_distinct_total = x 26;
    }

unfoldable pub fit_of_words : FitWords → SpectrumFit
fit_of_words w =
    let n : ℕ → ℕ = λ i. get_or w.wholes i 0 in
    let x : ℕ → Float = λ i. get_or w.floats i nan in
    fit_with w (error_of (bit_of (n 0))) (genome_of (bit_of (n 1))) (shape_of (bit_of (n 2)) (x 8))
    (shelf_from (bit_of (n 3)) (record { share = x 9; alpha = x 10; beta = x 11 }))
