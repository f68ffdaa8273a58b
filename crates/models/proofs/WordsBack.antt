-- A fit is read back from its words, and words that a fit can have are those of the fit that they say: `fit_words` and
-- `fit_of_words` undo each other. Assumes nothing.
use Prim.Native.Nat.{ℕ, zero, suc, ◌+◌, ◌<◌}
use mathlib.Core.Path.{◌≡◌, refl, sym, ap, ◌∙◌, subst}
use mathlib.Core.List.{List, [], ◌∷◌}
use native.Mathlib.Omega.{arith}
use lib.Ieee.{Float, nan}
use lib.ListN.{length, get_or}
use lib.Seq.{ext_get_or}
use Rattle.routines.specs.Constants as constants
use Rattle.helpers.specs.declared.shelves.Shelf.{Shelf}
use Rattle.models.specs.FitWords.{floats_of, bit_of, fit_words_of, fit_with, fit_of_words}
use Rattle.models.specs.Parts.{error_number, genome_number, error_of, genome_of}
use Rattle.models.specs.Parts.{shape_there, shape_number, shape_of, shelf_there, shelf_held, shelf_from}
use Rattle.models.specs.declared.families.ErrorModel.{ErrorModel}
use Rattle.models.specs.declared.families.ErrorModel.TheVariants.{FreeSingletonWeibull, SingletonPareto}
use Rattle.models.specs.declared.families.GenomeModel.{GenomeModel}
use Rattle.models.specs.declared.families.GenomeModel.TheVariants.{NegativeBinomial, ShelfNegativeBinomial}
use Rattle.models.specs.declared.fit.SpectrumFit.{SpectrumFit}
use Rattle.models.specs.declared.fit_words.FitWords.{FitWords}
use Rattle.std.specs.Prelude.{Option, None, Some}

-- ---- what is no number
error-back : (e : ErrorModel) → error_of (bit_of (error_number e)) ≡ e
error-back FreeSingletonWeibull = refl
error-back SingletonPareto = refl

genome-back : (g : GenomeModel) → genome_of (bit_of (genome_number g)) ≡ g
genome-back NegativeBinomial = refl
genome-back ShelfNegativeBinomial = refl

shape-back : (s : Option Float) → shape_of (bit_of (shape_there s)) (shape_number s) ≡ s
shape-back None = refl
shape-back (Some x) = refl

shelf-back : (p : Option Shelf) → shelf_from (bit_of (shelf_there p)) (shelf_held p) ≡ p
shelf-back None = refl
shelf-back (Some s) = refl

three_back : (xs : List Float) → length xs ≡ 3 → get_or xs 0 nan ∷ get_or xs 1 nan ∷ get_or xs 2 nan ∷ [] ≡ xs
three_back [] e = absurd (omega (arith, e))
three_back (x ∷ []) e = absurd (omega (arith, e))
three_back (x ∷ y ∷ []) e = absurd (omega (arith, e))
three_back (x ∷ y ∷ z ∷ []) e = refl
three_back (x ∷ y ∷ z ∷ u ∷ us) e = absurd (omega (arith, e))

-- the same words with the same parts make the same fit
pub same_parts : (w : FitWords) (e e' : ErrorModel) (g g' : GenomeModel) (s s' : Option Float) (p p' : Option Shelf) → e ≡ e' → g ≡ g'
    → s ≡ s' → p ≡ p' → fit_with w e g s p ≡ fit_with w e' g' s' p'
same_parts w e e' g g' s s' p p' a b c d = rw (a, b, c, d)

-- a fit is read back from its words; its two arrays have three numbers, as every fit's in code
pub fit-from-words : (f : SpectrumFit) → length f.component_log_window_masses ≡ 3
    → length f.component_log_totals ≡ 3 → fit_of_words (fit_words_of f) ≡ f
unfolding fit_of_words fit_with floats_of
fit-from-words f masses totals =
    rw (
      error-back f.error_model,
      genome-back f.genome_model,
      shape-back f.error_params.weibull_shape,
      shelf-back f.shelf,
      three_back _ masses,
      three_back _ totals,
    )

-- ---- the other way: 6 wholes and 27 floats; families and presences 0 or 1; zeros for what is absent
abbrev pub IsWords : FitWords → Type 0
IsWords w =
    let n : ℕ → ℕ = λ i. get_or w.wholes i 0 in
    let x : ℕ → Float = λ i. get_or w.floats i nan in
    (length w.wholes ≡ 6)
    × (length w.floats ≡ 27)
    × ((n 0 < 2) × (n 1 < 2) × (n 2 < 2) × (n 3 < 2))
    × (n 2 ≡ 0 → x 8 ≡ constants.zero)
    × (n 3 ≡ 0 → (x 9 ≡ constants.zero) × (x 10 ≡ constants.zero) × (x 11 ≡ constants.zero))

error-again : (n : ℕ) → n < 2 → error_number (error_of (bit_of n)) ≡ n
error-again zero h = refl
error-again (suc zero) h = refl
error-again (suc (suc n)) h = absurd (omega (arith, h))

genome-again : (n : ℕ) → n < 2 → genome_number (genome_of (bit_of n)) ≡ n
genome-again zero h = refl
genome-again (suc zero) h = refl
genome-again (suc (suc n)) h = absurd (omega (arith, h))

shape-there-again : (n : ℕ) (x : Float) → n < 2 → shape_there (shape_of (bit_of n) x) ≡ n
shape-there-again zero x h = refl
shape-there-again (suc zero) x h = refl
shape-there-again (suc (suc n)) x h = absurd (omega (arith, h))

shelf-there-again : (n : ℕ) (s : Shelf) → n < 2 → shelf_there (shelf_from (bit_of n) s) ≡ n
shelf-there-again zero s h = refl
shelf-there-again (suc zero) s h = refl
shelf-there-again (suc (suc n)) s h = absurd (omega (arith, h))

shape-again : (n : ℕ) (x : Float) → n < 2 → (n ≡ 0 → x ≡ constants.zero) → shape_number (shape_of (bit_of n) x) ≡ x
shape-again zero x l h = sym (h refl)
shape-again (suc zero) x l h = refl
shape-again (suc (suc n)) x l h = absurd (omega (arith, l))

-- each number of a shelf that is there, or of zeros
shelf-again : (n : ℕ) (s : Shelf) (field : Shelf → Float) → field (shelf_held None) ≡ constants.zero
    → n < 2 → (n ≡ 0 → field s ≡ constants.zero) → field (shelf_held (shelf_from (bit_of n) s)) ≡ field s
shelf-again zero s field z l h = z ∙ sym (h refl)
shelf-again (suc zero) s field z l h = refl
shelf-again (suc (suc n)) s field z l h = absurd (omega (arith, l))

-- ---- n entries of a list from place k on
module _ {A : Type 0} (d : A) (xs : List A) where
  abbrev entries : ℕ → ℕ → List A
  entries k zero = []
  entries k (suc n) = get_or xs k d ∷ entries (suc k) n

  entries-length : (k n : ℕ) → length (entries k n) ≡ n
  entries-length k zero = refl
  entries-length k (suc n) = ap suc (entries-length (suc k) n)

  entry-is : (k n i : ℕ) → i < n → get_or (entries k n) i d ≡ get_or xs (k + i) d
  entry-is k zero i l = absurd (omega (arith, l))
  entry-is k (suc n) zero l = ap (λ (j : ℕ). get_or xs j d) (omega arith)
  entry-is k (suc n) (suc i) l =
      entry-is (suc k) n i (omega (arith, l)) ∙ ap (λ (j : ℕ). get_or xs j d) (omega arith)

  all-entries : (n : ℕ) → length xs ≡ n → entries 0 n ≡ xs
  all-entries n e =
      ext_get_or d (entries 0 n) xs (entries-length 0 n ∙ sym e)
      (λ i l. entry-is 0 n i (subst (λ (m : ℕ). i < m) (entries-length 0 n) l) ∙ ap (λ (j : ℕ). get_or xs j d) (omega arith))

-- such words are those of the fit that they say
pub words-from-fit : (w : FitWords) → IsWords w → fit_words_of (fit_of_words w) ≡ w
unfolding fit_of_words fit_with floats_of
words-from-fit w (six, many, (a, b, c, d), absent, none) =
    let n : ℕ → ℕ = λ i. get_or w.wholes i 0 in
    let x : ℕ → Float = λ i. get_or w.floats i nan in
    let s : Shelf = record { share = x 9; alpha = x 10; beta = x 11 } in
    rw (
      error-again (n 0) a,
      genome-again (n 1) b,
      shape-there-again (n 2) (x 8) c,
      shelf-there-again (n 3) s d,
      shape-again (n 2) (x 8) c absent,
      shelf-again (n 3) s (λ (h : Shelf). h.share) refl d (λ e. (none e).0),
      shelf-again (n 3) s (λ (h : Shelf). h.alpha) refl d (λ e. (none e).1),
      shelf-again (n 3) s (λ (h : Shelf). h.beta) refl d (λ e. (none e).2),
      all-entries 0 w.wholes 6 six,
      all-entries nan w.floats 27 many,
    )
