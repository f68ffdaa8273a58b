-- Which run is kept, over any run table whose costs no number refuses. Assumes nothing.
use Prim.Native.Nat.{ℕ, suc, ◌≤◌, ◌<◌, zero-le}
use mathlib.Core.Path.{◌≡◌, refl, sym, ap, ◌∙◌, subst}
use mathlib.Core.Bool.{Bool, true, false, cond, true≢false}
use mathlib.Core.List.{List}
use mathlib.Core.Logic.{◌⊎◌, inl, inr}
use native.Mathlib.Nat.{not-suc-le-zero, eq-or-lt_of_le, le_of_suc-le-suc}
use native.Mathlib.Omega.{arith}
use lib.Ieee.{Float, lt}
use Rattle.meaning.proofs.Folds.{fold-keeps}
use Rattle.fitter.specs.Judging.{valid_run, kept_best}
use Rattle.fitter.specs.Kept.{Lowest, Found, none, one, KeptRun, is_valid, is_rejected, is_missing}
use Rattle.fitter.specs.Runs.{bad_cost}
use Rattle.fitter.specs.Surveys.{no_best, best_of, beats, lesser, least_step, least_of}
use Rattle.models.specs.declared.problems.Problem.{Problem}
use Rattle.fitter.specs.declared.runs.Run.{Run}
use Rattle.fitter.specs.declared.surveys.Best.{Best}
use Rattle.fitter.proofs.Keeping.{valid-converged}
use Rattle.fitter.proofs.Leasts.{beats-some, beats-none}
use Rattle.fitter.proofs.Prices.{Plain, plain-cost, below-those, not-both, not_itself}

-- j is below k, or k itself
split : (j k : ℕ) → j < suc k → (j < k) ⊎ (j ≡ k)
split j k h = go (eq-or-lt_of_le (le_of_suc-le-suc h))
  where
    go : (j ≡ k) ⊎ (j < k) → (j < k) ⊎ (j ≡ k)
    go (inl e) = inr e
    go (inr l) = inl l

module _ (at : ℕ → Run) (p : Run → Bool) (converged : (r : Run) → p r ≡ true → r.converged ≡ true) where
  -- ---- one run more
  module _ (k : ℕ) (plain : (j : ℕ) → j < suc k → p (at j) ≡ true → Plain (at j).cost) where
    less : {j : ℕ} → j < k → j < suc k
    less l = omega arith

    last : k < suc k
    last = omega arith

    -- what held of those before and holds of k holds of all
    also : (P : ℕ → Type 0) → ((j : ℕ) → j < k → P j) → P k → (j : ℕ) → j < suc k → P j
    also P before now j l = go (split j k l)
      where
        go : (j < k) ⊎ (j ≡ k) → P j
        go (inl l) = before j l
        go (inr e) = subst P (sym e) now

    passed : (b : Best) → p (at k) ≡ false → Found at p k b → Found at p (suc k) b
    passed b e (none z all) = none z (also (λ (j : ℕ). p (at j) ≡ false) all e)
    passed b e (one f) = one (record {
      below = less f.below;
      there = f.there;
      holds = f.holds;
      least =
          also (λ (j : ℕ). p (at j) ≡ true → lt (at j).cost b.run.cost ≡ false) f.least
          (λ (h : p (at k) ≡ true). absurd (true≢false (sym h ∙ e)));
      first = f.first;
    })

    -- the first of all
    begun : (b : Best) → p (at k) ≡ true → ((j : ℕ) → j < k → p (at j) ≡ false) → Found at p (suc k) (best_of k (at k))
    begun b e all = one (record {
      below = last;
      there = refl;
      holds = e;
      least =
          also (λ (j : ℕ). p (at j) ≡ true → lt (at j).cost (at k).cost ≡ false)
          (λ (j : ℕ) (l : j < k) (h : p (at j) ≡ true). absurd (true≢false (sym h ∙ all j l)))
          (λ (h : p (at k) ≡ true). not_itself (plain k last e));
      first = λ (j : ℕ) (l : j < k) (h : p (at j) ≡ true). absurd (true≢false (sym h ∙ all j l));
    })

    module _ (b : Best) (f : Lowest at p k b) where
      plain-b : Plain b.run.cost
      plain-b =
          subst (λ (r : Run). Plain r.cost) (sym f.there)
          (plain b.position (less f.below) (subst (λ (r : Run). p r ≡ true) f.there f.holds))

      -- a lower cost is below all that are not below the best
      lower : p (at k) ≡ true → lt (at k).cost b.run.cost ≡ true → (j : ℕ) → j < k → p (at j) ≡ true
          → lt (at k).cost (at j).cost ≡ true
      lower e h j l i = below-those (plain k last e) plain-b (plain j (less l) i) h (f.least j l i)

      took : p (at k) ≡ true → lt (at k).cost b.run.cost ≡ true → Found at p (suc k) (best_of k (at k))
      took e h = one (record {
        below = last;
        there = refl;
        holds = e;
        least =
            also (λ (j : ℕ). p (at j) ≡ true → lt (at j).cost (at k).cost ≡ false)
            (λ (j : ℕ) (l : j < k) (i : p (at j) ≡ true).
            not-both (plain k last e) (plain j (less l) i) (lower e h j l i))
            (λ (i : p (at k) ≡ true). not_itself (plain k last e));
        first = lower e h;
      })

      kept : p (at k) ≡ true → lt (at k).cost b.run.cost ≡ false → Found at p (suc k) b
      kept e h = one (record {
        below = less f.below;
        there = f.there;
        holds = f.holds;
        least =
            also (λ (j : ℕ). p (at j) ≡ true → lt (at j).cost b.run.cost ≡ false) f.least
            (λ (i : p (at k) ≡ true). h);
        first = f.first;
      })

    more : (b : Best) (e w : Bool) → p (at k) ≡ e → beats (at k).cost b ≡ w → Found at p k b
        → Found at p (suc k) (cond e (cond w (best_of k (at k)) b) b)
    more b false w ep ew f = passed b ep f
    more b true true ep ew (none z all) = begun b ep all
    more b true false ep ew (none z all) =
        absurd (true≢false (sym (ap (beats (at k).cost) z ∙ beats-none (at k).cost no_best refl) ∙ ew))
    more b true true ep ew (one f) =
        took b f ep (sym (beats-some (at k).cost b (converged b.run f.holds)) ∙ ew)
    more b true false ep ew (one f) =
        kept b f ep (sym (beats-some (at k).cost b (converged b.run f.holds)) ∙ ew)

  pub found : (n : ℕ) → ((i : ℕ) → i < n → p (at i) ≡ true → bad_cost (at i).cost ≡ false)
      → Found at p n (least_of at p n)
  unfolding least_of least_step lesser
  found n good =
      fold-keeps (least_step at p) (λ (k : ℕ) (b : Best). Found at p k b) 0 n no_best zero-le
      (λ (k : ℕ) (b : Best) (l : 0 ≤ k) (m : k < n) (f : Found at p k b).
      more k
      (λ (j : ℕ) (h : j < suc k) (i : p (at j) ≡ true). plain-cost (at j).cost (good j (omega (arith, h, m)) i)) b
      (p (at k)) (beats (at k).cost b) refl refl f)
      (none refl (λ (j : ℕ) (l : j < 0). absurd (not-suc-le-zero l)))

-- ---- THE THEOREM
module _ (bins : List ℕ) (setup : Problem) (lists : List Float) (room : ℕ) (at : ℕ → Run) (n : ℕ)
    (good : (i : ℕ) → i < n → (at i).converged ≡ true → bad_cost (at i).cost ≡ false) where
  abbrev valid : Run → Bool
  valid = valid_run bins setup lists room

  abbrev all : Run → Bool
  all run = run.converged

  pub kept_run : KeptRun at valid n (kept_best bins setup lists room at n)
  unfolding kept_best
  kept_run =
      go (least_of at valid n) (least_of at all n)
      (found at valid (valid-converged bins setup lists room) n
      (λ (i : ℕ) (l : i < n) (h : valid (at i) ≡ true). good i l (valid-converged bins setup lists room (at i) h)))
      (found at all (λ (r : Run) (e : r.converged ≡ true). e) n good)
    where
      where-some : (best other : Best) → best.run.converged ≡ true → cond best.run.converged best other ≡ best
      where-some best other e = ap (λ (c : Bool). cond c best other) e

      else-so : (best other : Best) → best ≡ no_best → cond best.run.converged best other ≡ other
      else-so best other e = ap (λ (x : Best). cond x.run.converged x other) e

      go : (best other : Best) → Found at valid n best → Found at all n other
          → KeptRun at valid n (cond best.run.converged best other)
      go best other (one f) g =
          subst (KeptRun at valid n)
          (sym (where-some best other (valid-converged bins setup lists room best.run f.holds))) (is_valid f)
      go best other (none z none-valid) (one g) =
          subst (KeptRun at valid n) (sym (else-so best other z)) (is_rejected none-valid g)
      go best other (none z none-valid) (none y none-there) =
          subst (KeptRun at valid n) (sym (else-so best other z)) (is_missing none-there y)
