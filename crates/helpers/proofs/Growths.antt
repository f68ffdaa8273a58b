-- What the masses' loop keeps of two lobes changes no number: the density over a slice that holds their growths is the
-- density; and how the loop fills such a slice. Assumes nothing.
use Prim.Native.Nat.{ℕ, zero, suc, ◌+◌, ◌*◌, ◌≤◌, ◌<◌}
use mathlib.Core.Path.{◌≡◌, refl, sym, ap, ◌∙◌, subst}
use mathlib.Core.Bool.{Bool, true, false, cond}
use mathlib.Core.List.{List}
use mathlib.Core.Logic.{◌⊎◌, inl, inr}
use native.Mathlib.Nat.{eq-or-lt_of_le}
use native.Mathlib.Omega.{arith}
use borrow.Author.Tests.{ltb-true, ltb-false}
use lib.Dec.{ltb}
use lib.ListN.{length, set, get_or-eq_default}
use lib.Seq.{get_or-set_same, get_or-set_other, set_out}
use lib.Ieee.{Float}
use Rattle.meaning.specs.Fold.{fold}
use Rattle.meaning.proofs.Folds.{fold_more, fold-none}
use Rattle.routines.specs.Ops.{◌⊕◌, ◌⊖◌, ◌⊗◌, of_count}
use Rattle.routines.specs.Hoists.{lgamma_with}
use Rattle.routines.specs.Lgamma.{lgamma_of}
use Rattle.routines.specs.Ln.{ln_of}
use Rattle.routines.proofs.Logarithms.{lgamma-with-is}
use Rattle.helpers.specs.Hoists.{density_with}
use Rattle.helpers.specs.Kept.{growth_of, density_from, growth_at, density_at, keep_step, kept_after, Keeps, Kept}
use Rattle.helpers.specs.declared.hoists.Lobe.{Lobe}

-- ---- the density with its growth at hand
pub density-from-is : (l : Lobe) (x gamma : Float) → density_from l x gamma (growth_of l x) ≡ density_with l x gamma
unfolding density_from growth_of density_with
density-from-is l x gamma = go l.poisson
  where
    go : (b : Bool)
        → cond b (x ⊗ l.rate ⊖ gamma ⊖ l.mean)
        (lgamma_with (x ⊕ l.size) (cond b l.rate (ln_of (x ⊕ l.size))) ⊖ gamma ⊖ l.gamma ⊕ l.start ⊕ x ⊗ l.slope)
        ≡ cond b (x ⊗ l.rate ⊖ gamma ⊖ l.mean)
        (lgamma_of (x ⊕ l.size) ⊖ gamma ⊖ l.gamma ⊕ l.start ⊕ x ⊗ l.slope)
    go true = refl
    go false = rw (lgamma-with-is)

module _ {l : Lobe} {j : ℕ} {kept : List Float} {end : ℕ} (k : Keeps l j kept end) where
  density-at-is : (n : ℕ) (gamma : Float) → 1 ≤ n → n < end
      → density_at l (of_count n) gamma kept (2 * n + j) ≡ density_with l (of_count n) gamma
  density-at-is n gamma h m =
      ap (density_from l (of_count n) gamma) (k.stands n h m) ∙ density-from-is l (of_count n) gamma

  -- ---- filling the slice
  -- a number behind those that stand there
  keeps-past : (i : ℕ) (x : Float) → 2 * end + j < i + 2 → Keeps l j (set kept i x) end
  unfolding growth_at
  keeps-past i x h = record {
    stands = λ (n : ℕ) (p : 1 ≤ n) (q : n < end).
        get_or-set_other kept i (2 * n + j) x _ (λ (e : 2 * n + j ≡ i). omega arith) ∙ k.stands n p q;
  }

  -- the next count's
  module _ (growth : Float) (e : growth ≡ growth_of l (of_count end)) where
    abbrev longer : List Float
    longer = set kept (2 * end + j) growth

    here : (b : Bool) → ltb (2 * end + j) (length kept) ≡ b → growth_at l (of_count end) longer (2 * end + j) ≡ growth_of l (of_count end)
    unfolding growth_at
    here true b = get_or-set_same kept _ growth _ (ltb-true _ _ b) ∙ e
    here false b = rw (set_out kept _ growth (ltb-false _ _ b)) (get_or-eq_default kept _ (ltb-false _ _ b))

    there : (n : ℕ) → 1 ≤ n → (n ≡ end) ⊎ (n < end) → growth_at l (of_count n) longer (2 * n + j) ≡ growth_of l (of_count n)
    there n p (inl s) = rw s (here _ refl)
    there n p (inr m) = (keeps-past (2 * end + j) growth (omega arith)).stands n p m

    keeps-more : Keeps l j longer (end + 1)
    keeps-more = record {
      stands = λ (n : ℕ) (p : 1 ≤ n) (q : n < end + 1). there n p (eq-or-lt_of_le (omega arith));
    }

-- ---- both lobes
module _ {l k : Lobe} {kept : List Float} {end : ℕ} (held : Kept l k kept end) (n : ℕ) (gamma : Float) where
  pub first-at-is : 1 ≤ n → n < end
      → density_at l (of_count n) gamma kept (2 * n) ≡ density_with l (of_count n) gamma
  first-at-is h m =
      let place : 2 * n ≡ 2 * n + 0 = omega arith in
      ap (density_at l (of_count n) gamma kept) place ∙ density-at-is held.first n gamma h m

  pub second-at-is : 1 ≤ n → n < end
      → density_at k (of_count n) gamma kept (2 * n + 1) ≡ density_with k (of_count n) gamma
  second-at-is h m = density-at-is held.second n gamma h m

pub kept-none : (l k : Lobe) (kept : List Float) → Kept l k kept 1
kept-none l k kept = record { first = none; second = none }
  where
    none : {l : Lobe} {j : ℕ} → Keeps l j kept 1
    none = record { stands = λ (n : ℕ) (p : 1 ≤ n) (q : n < 1). absurd (omega arith) }

pub kept_more : {l k : Lobe} {kept : List Float} {end : ℕ} → Kept l k kept end → (x y : Float)
    → x ≡ growth_of l (of_count end) → y ≡ growth_of k (of_count end)
    → Kept l k (set (set kept (2 * end) x) (2 * end + 1) y) (end + 1)
kept_more {l} {k} {kept} {end} held x y p q = record {
  first = subst (λ (i : ℕ). Keeps l 0 (set (set kept i x) (2 * end + 1) y) (end + 1)) (omega arith)
      (keeps-past (keeps-more held.first x p) (2 * end + 1) y (omega arith));
  second = keeps-more (keeps-past held.second _ x (omega arith)) y q;
}

-- ---- the slice that the loop leaves
module _ (l k : Lobe) (held : List Float) where
  one_more : (end : ℕ) → 1 ≤ end → Kept l k (fold (keep_step l k) 1 end held) end
      → Kept l k (fold (keep_step l k) 1 (end + 1) held) (end + 1)
  one_more end h so =
      subst (λ (s : List Float). Kept l k s (end + 1)) (sym (fold_more (keep_step l k) 1 end held h))
      (kept_more so _ _ refl refl)

  all-kept : (top : ℕ) → Kept l k (fold (keep_step l k) 1 (top + 1) held) (top + 1)
  all-kept zero =
      subst (λ (s : List Float). Kept l k s 1) (sym (fold-none (keep_step l k) 1 1 held (omega arith))) (kept-none l k held)
  all-kept (suc top) =
      subst (λ (end : ℕ). Kept l k (fold (keep_step l k) 1 end held) end) (omega arith)
      (one_more (top + 1) (omega arith) (all-kept top))

  pub kept-after : (top : ℕ) → Kept l k (kept_after l k top held) (top + 1)
  unfolding kept_after
  kept-after = all-kept
