-- What was asked, what the spectrum has, and what is refused, as lines. Definitions only. Assumes nothing.
use Rattle.std.specs.Prelude.{ℕ, not, List, [], ◌∷◌, ◌++◌, map, ltb, leb, is_some, unwrap_or}
use Rattle.std.specs.Float.Ieee.{lt, le}
use Rattle.meaning.specs.Flags.{byte_of}
use Rattle.routines.specs.Constants.{one}
use Rattle.fitter.specs.Asking.{seeds, shapes, window_end_of, window_kind_of, configuration_of}
use Rattle.fitter.specs.declared.asking.Asked.{Asked}
use Rattle.fitter.specs.declared.asking.WindowKind.{WindowKind}
use Rattle.fitter.specs.declared.asking.WindowKind.TheVariants as window
use Rattle.listing.specs.Listing.{ascii}
use Rattle.templates.specs.Filling.{filled_of}
use Rattle.record.specs.Lines.{lines_of}
use Rattle.routines.specs.Bits.{pattern_of}
use Rattle.models.specs.Parts.{error_number, genome_number}

-- ---- what was asked
abbrev pub version : ℕ
version = 2

abbrev pub options_text : Asked → List ℕ
options_text a =
    filled_of
    (lines_of
    ("fogatise pick"
    ∷ "version #"
    ∷ "valley #"
    ∷ "peak #"
    ∷ "budget ~"
    ∷ "scale ~"
    ∷ "hint ~"
    ∷ "mass_limit ~"
    ∷ "window_end_asked {-|#}"
    ∷ []))
    (version ∷ a.valley ∷ a.peak
    ∷ pattern_of a.budget ∷ pattern_of a.scale ∷ pattern_of a.hint ∷ pattern_of a.mass_limit
    ∷ byte_of (is_some a.window_end) ∷ unwrap_or a.window_end 0 ∷ [])

abbrev pub seeds_text : List ℕ
seeds_text = filled_of (lines_of ("seed.1 ~" ∷ "seed.2 ~" ∷ "seed.3 ~" ∷ [])) (map pattern_of seeds)

abbrev pub shapes_text : List ℕ
shapes_text =
    filled_of
    (lines_of
    ("shape.1.retained ~"
    ∷ "shape.1.concentration ~"
    ∷ "shape.2.retained ~"
    ∷ "shape.2.concentration ~"
    ∷ []))
    (map pattern_of shapes)

abbrev pub configuration_text : ℕ → List ℕ
configuration_text k =
    let families = configuration_of k in
    filled_of
    (lines_of
    ("configuration.# {FreeSingletonWeibull|SingletonPareto} {NegativeBinomial|ShelfNegativeBinomial}" ∷ []))
    (k ∷ error_number families.error ∷ genome_number families.genome ∷ [])

unfoldable pub configurations_text : List ℕ
configurations_text = configuration_text 1 ++ (configuration_text 2 ++ (configuration_text 3 ++ configuration_text 4))

-- what is odd in what was asked: the valley, the scale, the hint
unfoldable pub odd_of : Asked → List ℕ
odd_of a =
    byte_of (leb a.peak a.valley) ∷ byte_of (not (le one a.scale)) ∷ byte_of (not (lt one a.hint)) ∷ []

abbrev pub warnings_text : Asked → List ℕ
warnings_text a =
    filled_of
    (lines_of
    ("{|warning.valley it is not below the peak"
    ∷ "}{|warning.scale it is below 1, and 1 is used"
    ∷ "}{|warning.hint it is not above 1, and 2 is used"
    ∷ [])
    ++ ascii "}")
    (odd_of a)

unfoldable pub asked_text : Asked → List ℕ
asked_text a = options_text a ++ (seeds_text ++ (shapes_text ++ (configurations_text ++ warnings_text a)))

-- ---- the spectrum
-- the part of `{cut|full|given}`
abbrev pub window_number : WindowKind → ℕ
window_number window.Cut = 0
window_number window.Full = 1
window_number window.Given = 2

abbrev pub spectrum_text : Asked → ℕ → List ℕ
spectrum_text a bins =
    let end = window_end_of a bins in
    filled_of
    (lines_of
    ("bins #"
    ∷ "window_end #"
    ∷ "window {cut|full|given}{|"
    ∷ "warning.peak it lies beyond the window}"
    ∷ []))
    (bins ∷ end ∷ window_number (window_kind_of a bins) ∷ byte_of (ltb end a.peak) ∷ [])

-- ---- a refusal by its number, in document 01's words as far as a pick can meet it
abbrev pub refusal_text : ℕ → List ℕ
refusal_text n =
    filled_of
    (lines_of
    ("refusal # {|the peak, the valley or the number of bins is below 2|the peak, the valley, the number of bins or the window end is above 65535|the file breaks the layout of a histogram file|all bins are zero|the window end is 0 or beyond the bins|every recovered bin in the window is zero|a parameter list has a wrong length|a log probability is NaN|the mass limit is not finite or is below 1|a lent buffer is too short}"
    ∷ []))
    (n ∷ n ∷ [])

abbrev pub place_text : ℕ → List ℕ
place_text place = filled_of (lines_of ("place #" ∷ [])) (place ∷ [])
