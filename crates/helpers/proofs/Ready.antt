-- What stands ready in a slice changes no number: where the slice holds what its entries stand for, the masses of two
-- lobes in one loop, the density with its lgamma and the single-copy component at a whole count are the plain ones.
-- Assumes nothing.
use Prim.Native.Nat.{ℕ, ◌+◌, ◌*◌, ◌^◌, ◌≤◌, ◌<◌}
use mathlib.Core.Path.{◌≡◌, refl, sym, ap, ◌∙◌}
use mathlib.Core.Bool.{Bool, true, false, cond}
use mathlib.Core.List.{List, []}
use native.Mathlib.Omega.{arith}
use borrow.Author.Tests.{ltb-true, ltb-false}
use lib.Dec.{ltb}
use lib.ListN.{length, get_or, get_or-eq_default}
use lib.Ieee.{Float, inf, le}
use Rattle.meaning.proofs.Folds.{fold_same}
use Rattle.meaning.proofs.Overs.{get_d_any}
use Rattle.routines.specs.Constants.{one}
use Rattle.routines.specs.Hoists.{lgamma_with}
use Rattle.routines.specs.Lgamma.{lgamma_of}
use Rattle.routines.specs.Ln.{ln_of}
use Rattle.routines.specs.Ops.{◌⊕◌, ◌⊖◌, of_count}
use Rattle.routines.proofs.Counts.{count-more, count-back}
use Rattle.routines.proofs.Logarithms.{lgamma-with-is}
use Rattle.helpers.specs.Hoists.{lobe_of, density_of, density_with, poisson_of, binomial_of, shelf_logs_of}
use Rattle.helpers.specs.Kept.{growth_of}
use Rattle.helpers.specs.Lobes.{nearly_poisson, size_of, log_q_of, ln_dpois_of, ln_dnbinom_of}
use Rattle.helpers.specs.LogSums.{lse2_of}
use Rattle.helpers.specs.Masses.{recurrence, recurrence_step, poisson_ratio, binomial_ratio}
use Rattle.helpers.specs.Masses.{poisson_mass_of, binomial_mass_of, log_nb_mass_to, single_copy_mass_to}
use Rattle.helpers.specs.Mixtures.{mix_at_of, mix_mass_of}
use Rattle.helpers.specs.Pairs.{ratio_with, lobe_ratio, lobe_mass_of}
use Rattle.helpers.specs.Prepared.{ln_at, gamma_at, gamma_with}
use Rattle.helpers.specs.Shelves.{entry_at_of, mix_single_copy_of}
use Rattle.helpers.specs.declared.hoists.Lobe.{Lobe}
use Rattle.helpers.proofs.Densities.{density-is}
use Rattle.std.specs.Prelude.{Option, None, Some}
use Rattle.helpers.specs.declared.shelves.Shelf.{Shelf}

-- the slice holds what its entries stand for, up to n = top
pub record Ready (ready : List Float) (top : ℕ) : Type 0 where
  pub logs : (n : ℕ) → n ≤ top → ln_at ready n ≡ ln_of (of_count n)
  pub gammas : (n : ℕ) → n ≤ top → gamma_at ready n ≡ lgamma_of (of_count n ⊕ one)

-- so does the empty slice
pub nothing-ready : (top : ℕ) → Ready [] top
unfolding ln_at gamma_at
nothing-ready top = record { logs = λ (n : ℕ) (h : n ≤ top). refl; gammas = λ (n : ℕ) (h : n ≤ top). refl }

-- ---- lgamma(n + 1) from the slice's ln(n + 1)
pub gamma-with-is : (ready : List Float) (n : ℕ) (log : Float) → n ≤ 2 ^ 53 → log ≡ ln_at ready (n + 1)
    → gamma_with ready n log ≡ gamma_at ready n
unfolding gamma_with gamma_at ln_at
gamma-with-is ready n log h e = go (ltb (2 * n + 1) (length ready)) refl
  where
    go : (b : Bool) → ltb (2 * n + 1) (length ready) ≡ b
        → get_or ready (2 * n + 1) (lgamma_with (of_count n ⊕ one) log) ≡ get_or ready (2 * n + 1) (lgamma_of (of_count n ⊕ one))
    go true b = get_d_any ready (2 * n + 1) _ _ (ltb-true _ _ b)
    go false b =
        let short : length ready ≤ 2 * n + 1 = ltb-false (2 * n + 1) (length ready) b in
        let past : length ready ≤ 2 * (n + 1) = omega arith in
        let plain : log ≡ ln_of (of_count n ⊕ one) =
        e ∙ get_or-eq_default ready _ past ∙ ap ln_of (sym (count-more n h)) in
        ap (λ (x : Float). get_or ready (2 * n + 1) (lgamma_with (of_count n ⊕ one) x)) plain
        ∙ ap (get_or ready (2 * n + 1)) (lgamma-with-is (of_count n ⊕ one))

-- ---- the density with lgamma(x + 1) at hand
pub density-with-is : (l : Lobe) (x : Float) → density_with l x (lgamma_of (x ⊕ one)) ≡ density_of l x
unfolding density_with density_of
density-with-is l x = refl

-- ---- a lobe's mass
recurrence-same : (f g : ℕ → Float) (a b : Float) (top : ℕ) → a ≡ b → ((k : ℕ) → k ≤ top → f k ≡ g k)
    → (recurrence f a top).0 ≡ (recurrence g b top).0
recurrence-same f g a b top e h =
    ap (λ (x : Float). (recurrence f x top).0) e
    ∙ ap (λ (x : Float × Float). x.0)
    (fold_same (recurrence_step f) (recurrence_step g) 1 (top + 1) (inf true, b) (omega arith)
    (λ (k : ℕ) (x : Float × Float) (l : 1 ≤ k) (m : k < top + 1).
    ap (λ (r : Float). (lse2_of x.0 x.1, x.1 ⊕ r)) (h k (omega (arith, m)))))

module _ (ready : List Float) (top : ℕ) (held : Ready ready (top + 1)) (mean dispersion : Float) where
  next-log : (k : ℕ) → k ≤ top → ln_at ready (k + 1) ≡ ln_of (of_count (k + 1))
  next-log k h = held.logs (k + 1) (omega arith)

  pub lobe-mass-is : lobe_mass_of (lobe_of mean dispersion) ready top ≡ log_nb_mass_to mean dispersion top
  unfolding lobe_mass_of lobe_of log_nb_mass_to poisson_mass_of binomial_mass_of ratio_with growth_of density_of ln_dpois_of
  lobe-mass-is = go (le dispersion nearly_poisson) (density-is one mean dispersion)
    where
      go : (b : Bool) → let l = cond b (poisson_of mean) (binomial_of mean dispersion) in
          density_of l one ≡ ln_dnbinom_of one mean dispersion
          → (recurrence (lobe_ratio l ready) (density_of l one) top).0
          ≡ cond b (recurrence (poisson_ratio mean) (ln_dpois_of one mean) top).0
          (recurrence (binomial_ratio mean dispersion) (ln_dnbinom_of one mean dispersion) top).0
      go true e =
          recurrence-same _ _ _ _ top refl (λ (k : ℕ) (h : k ≤ top). ap (λ (x : Float). ln_of mean ⊖ x) (next-log k h))
      go false e =
          recurrence-same _ _ _ _ top e
          (λ (k : ℕ) (h : k ≤ top).
          ap (λ (x : Float). ln_of (of_count k ⊕ size_of mean dispersion) ⊖ x ⊕ log_q_of dispersion) (next-log k h))

-- ---- the single-copy component at a whole count, and its mass
module _ (shelf : Option Shelf) (table : List Float) where
  pub mix-at-is : (lobe : Float) (n : ℕ) → n ≤ 2 ^ 53
      → mix_at_of lobe n shelf (shelf_logs_of shelf) table ≡ mix_single_copy_of lobe (of_count n) shelf table
  mix-at-is lobe n h = go shelf
    where
      back : get_or table n (inf true) ≡ entry_at_of (of_count n) table
      back = unfold entry_at_of in ap (λ (i : ℕ). get_or table i (inf true)) (sym (count-back 64 n h (omega arith)))

      go : (shelf : Option Shelf)
          → mix_at_of lobe n shelf (shelf_logs_of shelf) table ≡ mix_single_copy_of lobe (of_count n) shelf table
      go None = unfold mix_single_copy_of in refl
      go (Some s) =
          unfold mix_single_copy_of in
          ap (λ (x : Float). lse2_of (ln_of (one ⊖ s.share) ⊕ lobe) (ln_of s.share ⊕ x)) back

  pub mix-mass-is : (mean dispersion lobe : Float) (top : ℕ) → lobe ≡ log_nb_mass_to mean dispersion top
      → mix_mass_of lobe shelf (shelf_logs_of shelf) table top ≡ single_copy_mass_to mean dispersion shelf table top
  mix-mass-is mean dispersion lobe top e = go shelf
    where
      go : (shelf : Option Shelf)
          → mix_mass_of lobe shelf (shelf_logs_of shelf) table top ≡ single_copy_mass_to mean dispersion shelf table top
      go None = unfold single_copy_mass_to in e
      go (Some s) = unfold single_copy_mass_to in rw e
