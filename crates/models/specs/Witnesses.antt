-- Fits whose hole cutoff can be worked out by hand, and what it is: a single-copy lobe, or a lobe and a shelf, over a
-- thousand k-mers. Definitions only. Assumes nothing.
use Rattle.std.specs.Prelude.{ℕ, ◌≡◌, List, [], ◌∷◌, Float, Option, None, Some}
use Rattle.meaning.specs.Reply.{give}
use Rattle.routines.specs.Constants.{one, zero as nought}
use Rattle.routines.specs.Starts.{dec}
use Rattle.models.specs.declared.families.ErrorModel.TheVariants.{SingletonPareto}
use Rattle.models.specs.declared.families.GenomeModel.TheVariants.{NegativeBinomial}
use Rattle.models.specs.declared.fit.SpectrumFit.{SpectrumFit}
use Rattle.models.specs.Cutoffs.{sure, hole_cutoff_sure_of}
use Rattle.helpers.specs.declared.shelves.Shelf.{Shelf}

-- what the walk does not read is 0
abbrev pub walked_fit : Float → Float → Option Shelf → ℕ → SpectrumFit
walked_fit mean dispersion part end =
    record {
      error_model = SingletonPareto;
      genome_model = NegativeBinomial;
      w_error = nought;
      w_single = nought;
      w_repeat = nought;
      mean = mean;
      dispersion = dispersion;
      target_mode = nought;
      error_params = record {
        singleton_probability = nought;
        tail_exponent = nought;
        weibull_shape = None;
      };
      shelf = part;
      repeat_ratio = nought;
      genome_kmers = dec 1000 1;
      error_kmers = nought;
      repeat_kmers = nought;
      log_likelihood = nought;
      bic = nought;
      deviance = nought;
      fit_window_end = end;
      best_iterations = 0;
      component_log_window_masses = nought ∷ nought ∷ nought ∷ [];
      component_log_totals = nought ∷ nought ∷ nought ∷ [];
      observed_total = nought;
      full_distinct_total = nought;
    }

-- ---- three components with mean 4, and the sums through 1, 2 and 3 that each walk compares
-- Poisson: 0.092, 0.238, 0.433
abbrev pub mean_four : SpectrumFit
mean_four = walked_fit (dec 4 1) one None 10

-- negative binomial, with dispersion 2: 3/16, 11/32, 1/2
abbrev pub spread : SpectrumFit
spread = walked_fit (dec 4 1) (dec 2 1) None 10

-- a quarter of it a shelf that is even over 0 to 4: 0.241, 0.408, 0.575
abbrev pub shelved : SpectrumFit
shelved = walked_fit (dec 4 1) (dec 2 1) (Some (record { share = dec 1 4; alpha = one; beta = one })) 10

-- ---- Poisson with mean 3.5: the sums through 1 to 4 are 0.136, 0.321, 0.537 and 0.725. The ceiling is 4, or a window
-- end below it.
abbrev pub mean_and_half : ℕ → SpectrumFit
mean_and_half end = walked_fit (dec 7 2) one None end

-- ---- a fit, a budget, and the cutoff, of which `hole_cutoff_sure` is sure
abbrev pub SureRow : Type 0
SureRow = SpectrumFit × Float × Option ℕ

abbrev pub AllSure : List SureRow → Type 0
AllSure [] = Unit {0}
AllSure (row ∷ rows) = (hole_cutoff_sure_of row.0 row.1 ≡ give (sure row.2)) × AllSure rows

-- each of the three answers, by each component; at 450 and 550 the one before answers none
abbrev pub answer_rows : List SureRow
answer_rows =
    (mean_four, dec 100 1, Some 2)
    ∷ (mean_four, dec 300 1, Some 3)
    ∷ (mean_four, dec 1000 1, None)
    ∷ (spread, dec 150 1, Some 2)
    ∷ (spread, dec 450 1, Some 3)
    ∷ (spread, dec 1000 1, None)
    ∷ (shelved, dec 200 1, Some 2)
    ∷ (shelved, dec 550 1, Some 3)
    ∷ (shelved, dec 1000 1, None)
    ∷ []

-- where the ceiling decides: none by a floored mean; 4 by a walk through the ceiling, or up to the window end; 3 by the
-- rounded mean alone
abbrev pub ceiling_rows : List SureRow
ceiling_rows =
    (mean_and_half 10, dec 400 1, Some 3)
    ∷ (mean_and_half 10, dec 600 1, None)
    ∷ (mean_and_half 3, dec 400 1, None)
    ∷ []
