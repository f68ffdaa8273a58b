-- A Pareto row's third number has no influence: two tables of one length whose rows agree in the first two numbers have
-- the same starts. Assumes nothing.
use Prim.Native.Nat.{ℕ, zero, suc, ◌+◌, ◌*◌, ◌/◌}
use mathlib.Core.Path.{◌≡◌, refl, ap, ◌∙◌}
use mathlib.Core.List.{List, [], ◌∷◌, ◌++◌}
use lib.ListN.{length, get_or}
use lib.Ieee.{Float, nan}
use Rattle.models.specs.declared.families.ErrorModel.TheVariants.{SingletonPareto}
use Rattle.models.specs.declared.families.GenomeModel.{GenomeModel}
use Rattle.models.specs.declared.families.GenomeModel.TheVariants.{NegativeBinomial, ShelfNegativeBinomial}
use Rattle.fitter.specs.InTurn.{in_turn}
use Rattle.fitter.specs.Starts.{plain_start, shelf_start, error_start_at, row_starts, table_starts, seed_starts}
use Rattle.fitter.specs.Starts.{all_starts}
use Rattle.fitter.specs.Starts.{hint_of, starts_of}
use Rattle.fitter.specs.declared.start_writers.ErrorStart.{ErrorStart}

turn-same : {A : Type 0} (f g : ℕ → List A) → ((i : ℕ) → f i ≡ g i) → (n : ℕ) → in_turn f n ≡ in_turn g n
unfolding in_turn
turn-same f g h zero = refl
turn-same f g h (suc n) = rw (turn-same f g h n, h n)

module _ (seed : Float) (d e : ErrorStart) (same-tail : d.tail ≡ e.tail) (same-single : d.single ≡ e.single) where
  plain-same : plain_start SingletonPareto seed d ≡ plain_start SingletonPareto seed e
  unfolding plain_start
  plain-same = rw (same-tail, same-single)

  row_same : (genome : GenomeModel) (share : Float) (shapes : List Float)
      → row_starts SingletonPareto genome seed d share shapes ≡ row_starts SingletonPareto genome seed e share shapes
  unfolding row_starts shelf_start
  row_same NegativeBinomial share shapes = plain-same
  row_same ShelfNegativeBinomial share shapes =
      turn-same (shelf_start SingletonPareto seed d share shapes) (shelf_start SingletonPareto seed e share shapes)
      (λ j. rw plain-same) (length shapes / 2)

-- the rows of p and q agree in their first two numbers
module _ (p q : List Float) (long : length p ≡ length q)
    (tails : (i : ℕ) → get_or p (3 * i) nan ≡ get_or q (3 * i) nan)
    (singles : (i : ℕ) → get_or p (3 * i + 1) nan ≡ get_or q (3 * i + 1) nan)
    (genome : GenomeModel) (share : Float) (shapes : List Float) where
  all_same : (seeds : List Float)
      → all_starts SingletonPareto genome seeds p share shapes ≡ all_starts SingletonPareto genome seeds q share shapes
  unfolding all_starts seed_starts table_starts
  all_same seeds =
      turn-same (seed_starts SingletonPareto genome seeds p share shapes) (seed_starts SingletonPareto genome seeds q share shapes)
      (λ k.
      turn-same (table_starts SingletonPareto genome (get_or seeds k nan) p share shapes)
      (table_starts SingletonPareto genome (get_or seeds k nan) q share shapes)
      (λ i. row_same (get_or seeds k nan) (error_start_at p i) (error_start_at q i) (tails i) (singles i) genome share shapes)
      (length p / 3)
      ∙ ap (λ (n : ℕ). in_turn (table_starts SingletonPareto genome (get_or seeds k nan) q share shapes) (n / 3)) long)
      (length seeds)

  pub no-shape : (weibull seeds : List Float) (hint : Float) (room : ℕ)
      → starts_of SingletonPareto genome p weibull seeds hint share shapes room
      ≡ starts_of SingletonPareto genome q weibull seeds hint share shapes room
  unfolding starts_of
  no-shape weibull seeds hint room = rw (all_same (seeds ++ (hint_of hint ∷ [])), long)
