-- The lines of the selected fit: every field, by the Rust's name. Definitions only. Assumes nothing.
use Rattle.std.specs.Prelude.{ℕ, List, [], ◌∷◌, ◌++◌, Float, get_or, Option, None, Some}
use Rattle.std.specs.Float.{nan}
use Rattle.models.specs.declared.fit.SpectrumFit.{SpectrumFit}
use Rattle.templates.specs.Filling.{filled_of}
use Rattle.record.specs.Lines.{lines_of}
use Rattle.routines.specs.Bits.{pattern_of}
use Rattle.models.specs.Parts.{error_number, genome_number}
use Rattle.record.specs.declared.fit_lines.ShelfValues.{ShelfValues}
use Rattle.record.specs.declared.fit_lines.ShapeValues.{ShapeValues}
use Rattle.helpers.specs.declared.shelves.Shelf.{Shelf}

abbrev pub shape_values : Option Float → ShapeValues
shape_values None = record { present = 0; shape = 0 }
shape_values (Some x) = record { present = 1; shape = pattern_of x }

abbrev pub shelf_values : Option Shelf → ShelfValues
shelf_values None = record { present = 0; share = 0; alpha = 0; beta = 0 }
shelf_values (Some s) =
    record { present = 1; share = pattern_of s.share; alpha = pattern_of s.alpha; beta = pattern_of s.beta }

unfoldable pub weights_text : SpectrumFit → List ℕ
weights_text f =
    filled_of
    (lines_of
    ("fit.error_model {FreeSingletonWeibull|SingletonPareto}"
    ∷ "fit.genome_model {NegativeBinomial|ShelfNegativeBinomial}"
    ∷ "fit.w_error ~"
    ∷ "fit.w_single ~"
    ∷ "fit.w_repeat ~"
    ∷ []))
    (error_number f.error_model ∷ genome_number f.genome_model ∷ pattern_of f.w_error
    ∷ pattern_of f.w_single ∷ pattern_of f.w_repeat ∷ [])

unfoldable pub lobe_text : SpectrumFit → List ℕ
lobe_text f =
    let errors = f.error_params in
    filled_of
    (lines_of
    ("fit.mean ~"
    ∷ "fit.dispersion ~"
    ∷ "fit.target_mode ~"
    ∷ "fit.error_params.singleton_probability ~"
    ∷ "fit.error_params.tail_exponent ~"
    ∷ []))
    (pattern_of f.mean ∷ pattern_of f.dispersion ∷ pattern_of f.target_mode
    ∷ pattern_of errors.singleton_probability ∷ pattern_of errors.tail_exponent ∷ [])

unfoldable pub shape_text : SpectrumFit → List ℕ
shape_text f =
    let shape = shape_values f.error_params.weibull_shape in
    filled_of (lines_of ("fit.error_params.weibull_shape {-|~}" ∷ [])) (shape.present ∷ shape.shape ∷ [])

unfoldable pub shelf_text : SpectrumFit → List ℕ
shelf_text f =
    let shelf = shelf_values f.shelf in
    filled_of
    (lines_of
    ("fit.shelf.share {-|~}"
    ∷ "fit.shelf.alpha {-|~}"
    ∷ "fit.shelf.beta {-|~}"
    ∷ []))
    (shelf.present ∷ shelf.share ∷ shelf.present ∷ shelf.alpha ∷ shelf.present ∷ shelf.beta ∷ [])

unfoldable pub kmers_text : SpectrumFit → List ℕ
kmers_text f =
    filled_of
    (lines_of
    ("fit.repeat_ratio ~"
    ∷ "fit.genome_kmers ~"
    ∷ "fit.error_kmers ~"
    ∷ "fit.repeat_kmers ~"
    ∷ []))
    (pattern_of f.repeat_ratio ∷ pattern_of f.genome_kmers ∷ pattern_of f.error_kmers
    ∷ pattern_of f.repeat_kmers ∷ [])

unfoldable pub scores_text : SpectrumFit → List ℕ
scores_text f =
    filled_of
    (lines_of
    ("fit.log_likelihood ~"
    ∷ "fit.bic ~"
    ∷ "fit.deviance ~"
    ∷ "fit.fit_window_end #"
    ∷ "fit.best_iterations #"
    ∷ []))
    (pattern_of f.log_likelihood ∷ pattern_of f.bic ∷ pattern_of f.deviance ∷ f.fit_window_end
    ∷ f.best_iterations ∷ [])

-- the patterns of three
unfoldable pub three_of : List Float → List ℕ
three_of x = pattern_of (get_or x 0 nan) ∷ pattern_of (get_or x 1 nan) ∷ pattern_of (get_or x 2 nan) ∷ []

unfoldable pub masses_text : SpectrumFit → List ℕ
masses_text f =
    filled_of
    (lines_of
    ("fit.component_log_window_masses.0 ~"
    ∷ "fit.component_log_window_masses.1 ~"
    ∷ "fit.component_log_window_masses.2 ~"
    ∷ []))
    (three_of f.component_log_window_masses)

unfoldable pub totals_text : SpectrumFit → List ℕ
totals_text f =
    filled_of
    (lines_of
    ("fit.component_log_totals.0 ~" ∷ "fit.component_log_totals.1 ~" ∷ "fit.component_log_totals.2 ~" ∷ []))
    (three_of f.component_log_totals)

unfoldable pub sums_text : SpectrumFit → List ℕ
sums_text f =
    filled_of (lines_of ("fit.observed_total ~" ∷ "fit.full_distinct_total ~" ∷ []))
    (pattern_of f.observed_total ∷ pattern_of f.full_distinct_total ∷ [])

unfoldable pub results_text : SpectrumFit → List ℕ
results_text f = kmers_text f ++ (scores_text f ++ (masses_text f ++ (totals_text f ++ sums_text f)))

unfoldable pub fit_text : SpectrumFit → List ℕ
fit_text f = weights_text f ++ (lobe_text f ++ (shape_text f ++ (shelf_text f ++ results_text f)))
