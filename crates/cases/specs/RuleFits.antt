-- Fits for the cases beside the validator's limits: a valid one, and what is changed in it; a row has the changes and the
-- answer. Definitions only. Assumes nothing.
use Rattle.std.specs.Prelude.{ℕ, suc, ◌-◌, ◌≡◌, cond, List, [], ◌∷◌, eqb, Float, Option, None, Some}
use Rattle.std.specs.Float.{binary64}
use Rattle.std.specs.Float.Ieee.{neg, of_bits, to_bits}
use Rattle.meaning.specs.Reply.{Reply, give}
use Rattle.routines.specs.Constants.{zero, one, two, three}
use Rattle.routines.specs.Starts.{dec}
use Rattle.helpers.specs.declared.shelves.Shelf.{Shelf}
use Rattle.models.specs.declared.families.ErrorModel.TheVariants.{SingletonPareto}
use Rattle.models.specs.declared.families.GenomeModel.TheVariants.{NegativeBinomial}
use Rattle.models.specs.declared.fit.SpectrumFit.{SpectrumFit}
use Rattle.fitter.specs.Validation.{Judgement, valid, rejected, validate_of}

-- ---- doubles beside a double: the next away from zero, and the next towards it
abbrev pub outward : Float → Float
outward x = of_bits binary64 (suc (to_bits binary64 x))

abbrev pub inward : Float → Float
inward x = of_bits binary64 (to_bits binary64 x - 1)

-- the least above 0, and the largest
abbrev pub least : Float
least = of_bits binary64 1

abbrev pub largest : Float
largest = of_bits binary64 0x7fefffffffffffff

-- ---- what is changed: a number of the fit or the mass limit, by its name; a count; the Weibull shape; the shelf
pub data Change : Type 0 where
  set : ℕ → Float → Change
  count : ℕ → ℕ → Change
  weibull : Float → Change
  shelved : Float → Float → Float → Change

abbrev pub number_in : List Change → ℕ → Float → Float
number_in [] name usual = usual
number_in (set n x ∷ cs) name usual = cond (eqb n name) x (number_in cs name usual)
number_in (count n k ∷ cs) name usual = number_in cs name usual
number_in (weibull x ∷ cs) name usual = number_in cs name usual
number_in (shelved s a b ∷ cs) name usual = number_in cs name usual

abbrev pub count_in : List Change → ℕ → ℕ → ℕ
count_in [] name usual = usual
count_in (set n x ∷ cs) name usual = count_in cs name usual
count_in (count n k ∷ cs) name usual = cond (eqb n name) k (count_in cs name usual)
count_in (weibull x ∷ cs) name usual = count_in cs name usual
count_in (shelved s a b ∷ cs) name usual = count_in cs name usual

abbrev pub shape_in : List Change → Option Float
shape_in [] = None
shape_in (set n x ∷ cs) = shape_in cs
shape_in (count n k ∷ cs) = shape_in cs
shape_in (weibull x ∷ cs) = Some x
shape_in (shelved s a b ∷ cs) = shape_in cs

abbrev pub shelf_in : List Change → Option Shelf
shelf_in [] = None
shelf_in (set n x ∷ cs) = shelf_in cs
shelf_in (count n k ∷ cs) = shelf_in cs
shelf_in (weibull x ∷ cs) = shelf_in cs
shelf_in (shelved s a b ∷ cs) = Some (record { share = s; alpha = a; beta = b })

-- the names of numbers
abbrev pub w_error : ℕ
w_error = 0

abbrev pub w_single : ℕ
w_single = 1

abbrev pub w_repeat : ℕ
w_repeat = 2

abbrev pub mean : ℕ
mean = 3

abbrev pub dispersion : ℕ
dispersion = 4

abbrev pub target : ℕ
target = 5

abbrev pub singleton : ℕ
singleton = 6

abbrev pub tail : ℕ
tail = 7

abbrev pub ratio : ℕ
ratio = 8

abbrev pub likelihood : ℕ
likelihood = 9

abbrev pub bic : ℕ
bic = 10

abbrev pub deviance : ℕ
deviance = 11

abbrev pub mass_error : ℕ
mass_error = 12

abbrev pub mass_single : ℕ
mass_single = 13

abbrev pub mass_repeat : ℕ
mass_repeat = 14

abbrev pub total_error : ℕ
total_error = 15

abbrev pub total_single : ℕ
total_single = 16

abbrev pub total_repeat : ℕ
total_repeat = 17

abbrev pub full : ℕ
full = 18

abbrev pub limit : ℕ
limit = 19

-- the names of counts
abbrev pub end : ℕ
end = 0

abbrev pub valley : ℕ
valley = 1

abbrev pub peak : ℕ
peak = 2

abbrev pub iterations : ℕ
iterations = 3

-- ---- the fit: a Poisson lobe at 2 and one of repeats at 3, beside errors most of which have count 1, in a window of two
-- counts; what no rule reads is 0
abbrev pub fit_from : List Change → SpectrumFit
fit_from cs =
    record {
      error_model = SingletonPareto;
      genome_model = NegativeBinomial;
      w_error = number_in cs w_error (dec 5 10);
      w_single = number_in cs w_single (dec 4 10);
      w_repeat = number_in cs w_repeat (dec 1 10);
      mean = number_in cs mean two;
      dispersion = number_in cs dispersion one;
      target_mode = number_in cs target two;
      error_params = record {
        singleton_probability = number_in cs singleton (dec 8 10);
        tail_exponent = number_in cs tail (dec 15 10);
        weibull_shape = shape_in cs;
      };
      shelf = shelf_in cs;
      repeat_ratio = number_in cs ratio (dec 15 10);
      genome_kmers = zero;
      error_kmers = zero;
      repeat_kmers = zero;
      log_likelihood = number_in cs likelihood (neg (dec 100 1));
      bic = number_in cs bic (dec 200 1);
      deviance = number_in cs deviance (dec 10 1);
      fit_window_end = count_in cs end 2;
      best_iterations = count_in cs iterations 0;
      component_log_window_masses =
          number_in cs mass_error zero ∷ number_in cs mass_single zero ∷ number_in cs mass_repeat zero ∷ [];
      component_log_totals =
          number_in cs total_error zero ∷ number_in cs total_single zero ∷ number_in cs total_repeat zero ∷ [];
      observed_total = zero;
      full_distinct_total = number_in cs full three;
    }

-- ---- a row
abbrev pub Case : Type 0
Case = List Change × Reply Judgement

abbrev pub passes : Reply Judgement
passes = give valid

abbrev pub breaks : ℕ → Reply Judgement
breaks n = give (rejected n)

-- what `validate_fit` is to answer: valley 2, peak 2 and a mass limit of 2 where they are not changed
abbrev pub answer_to : List Change → Reply Judgement
answer_to cs = validate_of (fit_from cs) (count_in cs valley 2) (count_in cs peak 2) (number_in cs limit two)

abbrev pub Answers : Case → Type 0
Answers row = answer_to row.0 ≡ row.1
